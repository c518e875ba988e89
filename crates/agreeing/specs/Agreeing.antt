-- The rows that agree with the goal, when all of it is passed, and the cassette wanted next.
use Rattle.std.specs.Prelude.{List, ◌≡◌, ℕ, suc, ◌≤◌, length}
use Rattle.stacks.specs.Run.{Usable}
use Rattle.rows.specs.Rows.{rows_down}
use Rattle.rooms.specs.declared.Frame.{Frame}
use Rattle.lifts.specs.Lifting.{height_in, shown}

-- the first r rows of x agree, and no more of those up to `most`
pub record AgreeIs (slots goal : List ℕ) (x most r : ℕ) : Type 0 where
  pub within : r ≤ most
  pub same : rows_down slots x r ≡ rows_down goal x r
  pub longest : (k : ℕ) → k ≤ most → rows_down slots x k ≡ rows_down goal x k → k ≤ r

-- that for every shaft, of the rows that both stores have
pub record AgreeingIs (f : Frame) (heights slots goal-heights goal-slots done : List ℕ) : Type 0 where
  pub sized : length done ≡ 16
  pub now : (x : ℕ) → height_in done x ≤ height_in heights x
  pub goal : (x : ℕ) → height_in done x ≤ height_in goal-heights x
  pub same : (x : ℕ) → rows_down slots x (height_in done x) ≡ rows_down goal-slots x (height_in done x)
  pub longest : (x k : ℕ) → Usable f.m x → k ≤ height_in heights x → k ≤ height_in goal-heights x → rows_down slots x k ≡ rows_down goal-slots x k → k ≤ height_in done x

-- every row of the goal is passed
abbrev pub Finished : Frame → List ℕ → List ℕ → Type 0
Finished f goal-heights done = (x : ℕ) → Usable f.m x → height_in goal-heights x ≤ height_in done x

-- the cassette that the goal has above the rows of shaft x that are passed
abbrev pub wanted_in : List ℕ → List ℕ → ℕ → ℕ
wanted_in goal done x = shown goal x (suc (height_in done x))
