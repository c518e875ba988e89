-- Where a cassette that is not passed stands.
use Rattle.std.specs.Prelude.{List, Option, Some, None, ◌≡◌, ℕ, ◌≤◌, ◌<◌}
use Rattle.stacks.specs.Run.{Usable}
use Rattle.rooms.specs.declared.Frame.{Frame}
use Rattle.rooms.specs.declared.Spot.{Spot}
use Rattle.lifts.specs.Lifting.{height_in, shown}

-- v stands in row y of shaft x, above the rows that are passed
pub record Stands (f : Frame) (heights slots done : List ℕ) (v x y : ℕ) : Type 0 where
  pub usable : Usable f.m x
  pub unpassed : height_in done x < y
  pub standing : y ≤ height_in heights x
  pub shows : shown slots x y ≡ v

-- not nowhere
abbrev pub Somewhere : Frame → List ℕ → List ℕ → List ℕ → ℕ → Type 0
Somewhere f heights slots done v = ((x y : ℕ) → Stands f heights slots done v x y → ⊥) → ⊥

-- a place where v stands, or it stands nowhere
abbrev pub FoundIs : Frame → List ℕ → List ℕ → List ℕ → ℕ → Option Spot → Type 0
FoundIs f heights slots done v (Some s) = Stands f heights slots done v s.shaft.0 s.row.0
FoundIs f heights slots done v None = (x y : ℕ) → Stands f heights slots done v x y → ⊥
