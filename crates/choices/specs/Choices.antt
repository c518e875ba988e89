-- What the choice of a round promises.
use Rattle.std.specs.Prelude.{List, ℕ, ◌<◌}
use Rattle.stacks.specs.Run.{Usable}
use Rattle.rooms.specs.declared.Frame.{Frame}
use Rattle.lifts.specs.Lifting.{height_in}
use Rattle.choices.specs.declared.Round.{Round}
use Rattle.agreeing.specs.Agreeing.{Finished, wanted_in}
use Rattle.finding.specs.Finding.{Stands, Somewhere}

-- shaft `to` of the goal is not passed, and the cassette of its next row stands at `from`
pub record RoundFor (f : Frame) (goal-heights goal-slots done heights slots : List ℕ) (r : Round) : Type 0 where
  pub usable : Usable f.m r.to.0
  pub wanted : height_in done r.to.0 < height_in goal-heights r.to.0
  pub found : Stands f heights slots done (wanted_in goal-slots done r.to.0) r.from.shaft.0 r.from.row.0

-- rounds are left, and each of them can be played
pub record SomeRound (f : Frame) (goal-heights goal-slots done heights slots : List ℕ) : Type 0 where
  pub left : Finished f goal-heights done → ⊥
  pub somewhere : (x : ℕ) → Usable f.m x → height_in done x < height_in goal-heights x
      → Somewhere f heights slots done (wanted_in goal-slots done x)
