-- What a round brings about: one row more is passed, within 4h + 8 lifts; and what all of them do.
use Rattle.std.specs.Prelude.{List, ◌≡◌, ℕ, suc, ◌+◌, ◌-◌, ◌*◌, ◌≤◌, ◌<◌}
use Rattle.stacks.specs.Run.{Usable}
use Rattle.stacks.specs.Count.{sum}
use Rattle.moves.specs.Went.{Went}
use Rattle.moves.specs.Written.{Steps}
use Rattle.rooms.specs.declared.Frame.{Frame}
use Rattle.lifts.specs.Lifting.{height_in}
use Rattle.rooms.specs.Frames.{store_of, depth_in}
use Rattle.agreeing.specs.Agreeing.{Finished}
use Rattle.turns.specs.Turning.{OnTheWay}
use Rattle.serving.specs.Serving.{deepest, OneMore}

-- the top row of shaft b is the next one
pub record CanRestore (f : Frame) (tops done : List ℕ) (b : ℕ) : Type 0 where
  pub usable : Usable f.m b
  pub top : suc (height_in done b) ≡ depth_in f b
  pub wanted : height_in done b < height_in tops b

-- The next row of b is in place, and everything passed stays.
pub record GrownIs (f : Frame) (tops goal done heights slots : List ℕ) (b most count : ℕ) (came done' heights' slots' : List ℕ) (count' : ℕ) (out : List ℕ) : Type 0 where
  pub went : Went (store_of f heights slots) count came most (store_of f heights' slots') count' out
  pub way : OnTheWay f tops goal done' heights' slots'
  pub more : OneMore b done done'

-- how many rows of the goal are not passed
unfoldable pub rows_left : Frame → List ℕ → List ℕ → ℕ
rows_left f tops done = sum f.m (λ x. height_in tops x - height_in done x)

-- The lifts lead to the goal, at most 4h + 8 for each row that was not passed; the store is the goal then, and every row of it is passed.
pub record ArrivedIs (f : Frame) (tops goal done heights slots came done' heights' slots' : List ℕ) (count : ℕ) (out : List ℕ) : Type 0 where
  pub store : store_of f heights' slots' ≡ store_of f tops goal
  pub passed : Finished f tops done'
  pub steps : Steps (store_of f heights slots) 0 came (store_of f tops goal) count out
  pub few : count ≤ rows_left f tops done * (4 * deepest f + 8)
