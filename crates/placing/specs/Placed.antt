-- What a placement asks for and brings about.
use Rattle.std.specs.Prelude.{List, ◌∷◌, ◌≡◌, ℕ, suc, ◌+◌, ◌-◌, ◌≤◌, ◌<◌}
use Rattle.stacks.specs.Run.{Usable}
use Rattle.stacks.specs.Placing.{Onto, lifts_left}
use Rattle.store.specs.Slots.{slot, downward, stack}
use Rattle.moves.specs.Went.{Went}
use Rattle.rooms.specs.declared.Frame.{Frame}
use Rattle.lifts.specs.Lifting.{height_in}
use Rattle.rooms.specs.Frames.{store_of, depth_in, Held}

-- at most so many lifts bring the cassette of row y of a to row y' of b
abbrev pub lifts_ahead : Frame → List ℕ → ℕ → ℕ → ℕ → ℕ → ℕ
lifts_ahead f heights a y b y' =
    lifts_left (height_in heights a - y) (suc (height_in heights b) - y') (f.e + (height_in heights a + height_in heights b) - (depth_in f a + depth_in f b))

-- the cassette of row y of a can be brought to row y' of b: both rows lie above the floors, and a slot is left outside if anything is in the way
pub record CanPlace (f : Frame) (heights : List ℕ) (a y b y' : ℕ) : Type 0 where
  pub differ : a ≡ b → ⊥
  pub first : Usable f.m a
  pub second : Usable f.m b
  pub row : 0 < y
  pub stands : y ≤ height_in heights a
  pub some_row : 0 < y'
  pub reaches : y' ≤ suc (height_in heights b)
  pub has_row : y' ≤ depth_in f b
  pub floor_from : depth_in f a < f.e + y
  pub floor_to : depth_in f b < f.e + y'
  pub way : 0 < (height_in heights a - y) + (suc (height_in heights b) - y') → depth_in f a + depth_in f b < f.e + (height_in heights a + height_in heights b)

-- The cassette of row y of a stands in row y' of b. The rows under both are as they were, and so is every other shaft, but for what was set on it.
pub record PlacedIs (f : Frame) (heights slots : List ℕ) (a y b y' at : ℕ) (came heights' slots' : List ℕ) (at' : ℕ) (out : List ℕ) : Type 0 where
  pub went : Went (store_of f heights slots) at came (lifts_ahead f heights a y b y') (store_of f heights' slots') at' out
  pub held : Held f heights' slots'
  pub placed : Onto (slot (store_of f heights slots) a y ∷ downward (store_of f heights slots) b (y' - 1)) (stack (store_of f heights' slots') b)
  pub first : Onto (downward (store_of f heights slots) a (y - 1)) (stack (store_of f heights' slots') a)
  pub others : (x : ℕ) → (x ≡ a → ⊥) → (x ≡ b → ⊥) → Onto (stack (store_of f heights slots) x) (stack (store_of f heights' slots') x)
