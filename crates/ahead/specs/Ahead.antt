-- What is ahead of a placement, and where its cassette stands after a lift.
use Rattle.std.specs.Prelude.{Bool, true, false, List, ◌≡◌, ℕ, suc, ◌+◌, ◌≤◌, ◌<◌}
use Rattle.stacks.specs.Run.{Usable}
use Rattle.stacks.specs.Placing.{Spare}
use Rattle.rooms.specs.declared.Frame.{Frame}
use Rattle.rooms.specs.declared.Lift.{Lift}
use Rattle.rooms.specs.declared.Spot.{Spot}
use Rattle.ahead.specs.declared.Ahead.{Ahead}
use Rattle.lifts.specs.Lifting.{height_in}
use Rattle.rooms.specs.Frames.{depth_in}

-- row y of shaft a is no higher than its top, y' of shaft b no higher than the next row; and the two shafts have no more room than the store
pub record CanSee (f : Frame) (heights : List ℕ) (a y b y' : ℕ) : Type 0 where
  pub first : Usable f.m a
  pub second : Usable f.m b
  pub stands : y ≤ height_in heights a
  pub some_row : 0 < y'
  pub reaches : y' ≤ suc (height_in heights b)
  pub rooms : depth_in f a + depth_in f b ≤ f.e + (height_in heights a + height_in heights b)

-- what stands above row y of a, what stands from row y' of b up, and the empty slots outside the two shafts
pub record AheadIs (f : Frame) (heights : List ℕ) (a y b y' : ℕ) (r : Ahead) : Type 0 where
  pub cover : r.cover + y ≡ height_in heights a
  pub in_way : r.load + y' ≡ suc (height_in heights b)
  pub outside : r.outside + (depth_in f a + depth_in f b) ≡ f.e + (height_in heights a + height_in heights b)

-- one slot is left outside, and more than one cassette is in the way; or one may be lifted aside
pub record TightIs (n : Ahead) (r : Bool) : Type 0 where
  pub one : r ≡ true → (n.outside ≡ 1) × (1 < n.cover + n.load)
  pub spare : r ≡ false → Spare n.cover n.load n.outside

-- The cassette is where it was, unless it was lifted: then it is on top of the shaft entered, which was `high` before.
pub record FollowIs (at : Spot) (cover : ℕ) (t : Lift) (high : ℕ) (r : Spot) : Type 0 where
  pub stayed : (t.from.0 ≡ at.shaft.0 → 0 < cover) → (r.shaft.0 ≡ at.shaft.0) × (r.row.0 ≡ at.row.0)
  pub lifted : t.from.0 ≡ at.shaft.0 → cover ≡ 0 → (r.shaft.0 ≡ t.to.0) × (r.row.0 ≡ suc high)
