-- What serving a shaft brings about: its next row is in place, and a top row may be owed for it.
use Rattle.std.specs.Prelude.{List, Option, Some, None, ◌≡◌, ℕ, suc, ◌+◌, ◌-◌, ◌*◌}
use Rattle.stacks.specs.Run.{Usable}
use Rattle.stacks.specs.Count.{greatest}
use Rattle.moves.specs.Went.{Went}
use Rattle.lifts.specs.declared.Shaft.{Shaft}
use Rattle.rooms.specs.declared.Frame.{Frame}
use Rattle.rooms.specs.declared.Spot.{Spot}
use Rattle.lifts.specs.Lifting.{height_in}
use Rattle.rooms.specs.Frames.{store_of, depth_in}
use Rattle.turns.specs.declared.Turned.{Turned}
use Rattle.turns.specs.Turning.{OnTheWay}

-- the depth of the deepest shaft
abbrev pub deepest : Frame → ℕ
deepest f = greatest f.m (depth_in f)

-- a cassette on the wanted one takes two lifts at most, one in its way one; then come a turn, which puts one more in the way, and the cassette itself by way of one slot
abbrev pub most_lifts : List ℕ → Spot → Spot → ℕ
most_lifts heights at to = 2 * (height_in heights at.shaft.0 - at.row.0) + (suc (height_in heights to.shaft.0) - to.row.0) + 4

-- one row more of b is passed, and else what was
abbrev pub OneMore : ℕ → List ℕ → List ℕ → Type 0
OneMore b done done' = (height_in done' b ≡ suc (height_in done b)) × ((x : ℕ) → (x ≡ b → ⊥) → height_in done' x ≡ height_in done x)

-- one row more of b is passed, and the top row of c no longer, though it was
pub record Lent (f : Frame) (b c : ℕ) (done done' : List ℕ) : Type 0 where
  pub usable : Usable f.m c
  pub differ : c ≡ b → ⊥
  pub top : suc (height_in done' c) ≡ depth_in f c
  pub before : suc (height_in done' c) ≡ height_in done c
  pub grown : height_in done' b ≡ suc (height_in done b)
  pub others : (x : ℕ) → (x ≡ b → ⊥) → (x ≡ c → ⊥) → height_in done' x ≡ height_in done x

-- what is passed after the placement, by what is owed
abbrev pub ServedOwed : Frame → ℕ → List ℕ → List ℕ → Option Shaft → Type 0
ServedOwed f b done done' None = OneMore b done done'
ServedOwed f b done done' (Some c) = Lent f b c.0 done done'

-- The next row of b is in place, and everything passed stays, but for a top row that may be owed.
pub record ServedIs (f : Frame) (tops goal done heights slots : List ℕ) (b most count : ℕ) (came done' heights' slots' : List ℕ) (r : Turned) (out : List ℕ) : Type 0 where
  pub went : Went (store_of f heights slots) count came most (store_of f heights' slots') r.count out
  pub way : OnTheWay f tops goal done' heights' slots'
  pub owed : ServedOwed f b done done' r.owed
