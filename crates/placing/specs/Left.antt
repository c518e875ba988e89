-- What it takes for a cassette to leave its own shaft, and what is so then.
use Rattle.std.specs.Prelude.{List, ◌≡◌, ℕ, ◌+◌, ◌-◌, ◌≤◌, ◌<◌}
use Rattle.stacks.specs.Run.{Usable}
use Rattle.stacks.specs.Placing.{Onto}
use Rattle.store.specs.Slots.{slot, downward, stack}
use Rattle.moves.specs.Went.{Went}
use Rattle.rooms.specs.declared.Frame.{Frame}
use Rattle.placing.specs.declared.leave.Off.{Off}
use Rattle.lifts.specs.Lifting.{height_in}
use Rattle.rooms.specs.Frames.{store_of, depth_in, Held}

-- a cassette stands in row y of b, above the floor
pub record CanLeave (f : Frame) (heights : List ℕ) (b y : ℕ) : Type 0 where
  pub usable : Usable f.m b
  pub row : 0 < y
  pub stands : y ≤ height_in heights b
  pub floor : depth_in f b < f.e + y

-- The cassette of row y of b stands on top of another shaft; b has the rows under it, and every other shaft what it had, but for what was set on it.
pub record LeftIs (f : Frame) (heights slots : List ℕ) (b y at : ℕ) (came heights' slots' : List ℕ) (r : Off) (out : List ℕ) : Type 0 where
  pub went : Went (store_of f heights slots) at came (height_in heights b + 1 - y) (store_of f heights' slots') r.count out
  pub held : Held f heights' slots'
  pub usable : Usable f.m r.at.shaft.0
  pub differ : r.at.shaft.0 ≡ b → ⊥
  pub row : r.at.row.0 ≡ height_in heights' r.at.shaft.0
  pub some_row : 0 < r.at.row.0
  pub shows : slot (store_of f heights' slots') r.at.shaft.0 r.at.row.0 ≡ slot (store_of f heights slots) b y
  pub over : height_in heights r.at.shaft.0 < r.at.row.0
  pub low : height_in heights' b ≡ y - 1
  pub first : Onto (downward (store_of f heights slots) b (y - 1)) (stack (store_of f heights' slots') b)
  pub others : (x : ℕ) → (x ≡ b → ⊥) → Onto (stack (store_of f heights slots) x) (stack (store_of f heights' slots') x)
