-- What a round asks for, and what making room in it brings about.
use Rattle.std.specs.Prelude.{List, Option, Some, None, ◌≡◌, ℕ, suc, ◌+◌, ◌-◌, ◌≤◌, ◌<◌, length, set}
use Rattle.stacks.specs.Run.{Stacks, Usable}
use Rattle.stacks.specs.Placing.{Halfway}
use Rattle.store.specs.Slots.{stack}
use Rattle.rows.specs.Rows.{rows_down}
use Rattle.store.specs.Sound.{Shaped}
use Rattle.moves.specs.Went.{Went}
use Rattle.lifts.specs.declared.Shaft.{Shaft}
use Rattle.rooms.specs.declared.Frame.{Frame}
use Rattle.rooms.specs.declared.Spot.{Spot}
use Rattle.lifts.specs.Lifting.{height_in}
use Rattle.rooms.specs.Frames.{store_of, depth_in, Held}
use Rattle.agreeing.specs.Agreeing.{wanted_in}
use Rattle.finding.specs.Finding.{Stands}
use Rattle.turns.specs.declared.Turned.{Turned}

-- the rows of the goal that are passed
abbrev pub passed_rows : List ℕ → List ℕ → Stacks
passed_rows goal done x = rows_down goal x (height_in done x)

-- Rounds under way: `done` says how many rows of each shaft are passed, and the store and the goal agree on them.
pub record OnTheWay (f : Frame) (tops goal done heights slots : List ℕ) : Type 0 where
  pub held : Held f heights slots
  pub goal_shaped : Shaped (store_of f tops goal)
  pub three : 3 ≤ f.m
  pub some_row : (x : ℕ) → Usable f.m x → 0 < depth_in f x
  pub sized : length done ≡ 16
  pub within : (x : ℕ) → height_in done x ≤ height_in tops x
  pub halfway : Halfway f.m (depth_in f) f.e (stack (store_of f tops goal)) (stack (store_of f heights slots)) (passed_rows goal done)

-- the cassette at `at` is the one that the goal has in the row `to`, the next of its shaft, and stands in another shaft
pub record Ready (f : Frame) (tops goal done heights slots : List ℕ) (at to : Spot) : Type 0 where
  pub way : OnTheWay f tops goal done heights slots
  pub usable : Usable f.m to.shaft.0
  pub wanted : height_in done to.shaft.0 < height_in tops to.shaft.0
  pub row : to.row.0 ≡ suc (height_in done to.shaft.0)
  pub stands : Stands f heights slots done (wanted_in goal done to.shaft.0) at.shaft.0 at.row.0
  pub differ : at.shaft.0 ≡ to.shaft.0 → ⊥

-- one of the first three shafts, other than a and b
pub record OtherIs (a b c : ℕ) : Type 0 where
  pub low : c ≤ 2
  pub not_first : c ≡ a → ⊥
  pub not_second : c ≡ b → ⊥

-- a shaft that may be used, other than a and b
pub record ThirdIs (f : Frame) (a b c : ℕ) : Type 0 where
  pub usable : Usable f.m c
  pub not_first : c ≡ a → ⊥
  pub not_second : c ≡ b → ⊥

-- nothing is owed where the top is not passed; else it is passed no longer
abbrev pub LentIs : List ℕ → List ℕ → ℕ → List ℕ → Option Shaft → Type 0
LentIs done heights c done' None = (done' ≡ done) × (height_in done c < height_in heights c)
LentIs done heights c done' (Some x) = (x.0 ≡ c) × ((done' ≡ set done c (height_in done c - 1)) × (height_in done c ≡ height_in heights c))

-- what is passed then: all that was, or all but the top row of a full shaft other than b
abbrev pub OwedIs : Frame → ℕ → List ℕ → List ℕ → Option Shaft → Type 0
OwedIs f b done done' None = (x : ℕ) → height_in done' x ≡ height_in done x
OwedIs f b done done' (Some c) =
    Usable f.m c.0
    × ((c.0 ≡ b → ⊥)
    × ((suc (height_in done' c.0) ≡ depth_in f c.0)
    × ((suc (height_in done' c.0) ≡ height_in done c.0) × ((x : ℕ) → (x ≡ c.0 → ⊥) → height_in done' x ≡ height_in done x))))

-- The cassette can be brought to its row now: a slot is left outside the two shafts, if anything is in the way.
pub record TurnedIs (f : Frame) (tops goal done heights slots : List ℕ) (at to : Spot) (count : ℕ) (came done' heights' slots' : List ℕ) (r : Turned) (out : List ℕ) : Type 0 where
  pub went : Went (store_of f heights slots) count came 1 (store_of f heights' slots') r.count out
  pub ready : Ready f tops goal done' heights' slots' at to
  pub same : height_in heights' at.shaft.0 ≡ height_in heights at.shaft.0
  pub near : height_in heights' to.shaft.0 ≤ suc (height_in heights to.shaft.0)
  pub owed : OwedIs f to.shaft.0 done done' r.owed
  pub room : 0 < (height_in heights' at.shaft.0 - at.row.0) + (suc (height_in heights' to.shaft.0) - to.row.0)
      → depth_in f at.shaft.0 + depth_in f to.shaft.0 < f.e + (height_in heights' at.shaft.0 + height_in heights' to.shaft.0)
