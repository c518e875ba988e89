-- What the search for room promises.
use Rattle.std.specs.Prelude.{List, Option, Some, None, ℕ, ◌≤◌}
use Rattle.lifts.specs.declared.Shaft.{Shaft}
use Rattle.stacks.specs.Placing.{Outside}
use Rattle.rooms.specs.declared.Frame.{Frame}
use Rattle.lifts.specs.Lifting.{height_in}
use Rattle.rooms.specs.Frames.{depth_in}

-- a shaft with room other than a and b, or there is none from `start` on
abbrev pub OutsideIs : Frame → List ℕ → ℕ → ℕ → ℕ → Option Shaft → Type 0
OutsideIs f heights a b start (Some c) = Outside f.m (depth_in f) a b (height_in heights) c.0
OutsideIs f heights a b start None = (c : ℕ) → start ≤ c → Outside f.m (depth_in f) a b (height_in heights) c → ⊥

-- not all other shafts are full
abbrev pub SomeOutside : Frame → List ℕ → ℕ → ℕ → Type 0
SomeOutside f heights a b = ((c : ℕ) → Outside f.m (depth_in f) a b (height_in heights) c → ⊥) → ⊥
