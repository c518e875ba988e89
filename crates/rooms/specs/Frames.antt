-- A store that is lent as its heights and its slots, with its frame apart.
use Rattle.std.specs.Prelude.{List, ◌≡◌, ℕ, ◌+◌, ◌≤◌}
use Rattle.stacks.specs.Count.{sum, total}
use Rattle.lifts.specs.Lifting.{most_shafts, most_rows, height_in}
use Rattle.store.specs.declared.Store.{Store}
use Rattle.store.specs.Slots.{held, stack}
use Rattle.depths.specs.Depths.{depth_by}
use Rattle.store.specs.Sound.{Shaped}
use Rattle.rooms.specs.declared.Frame.{Frame}

-- the store of a frame, its heights and its slots
abbrev pub store_of : Frame → List ℕ → List ℕ → Store
store_of f heights slots = held f.m f.depths heights slots

-- the depth of a shaft
abbrev pub depth_in : Frame → ℕ → ℕ
depth_in f = depth_by f.depths

-- at most 16 shafts of at most 16 rows, and no height passes its depth
pub record Fits (f : Frame) (heights : List ℕ) : Type 0 where
  pub shafts : f.m ≤ most_shafts
  pub rows : (x : ℕ) → depth_in f x ≤ most_rows
  pub within : (x : ℕ) → height_in heights x ≤ depth_in f x

-- a store with e empty slots
pub record Held (f : Frame) (heights slots : List ℕ) : Type 0 where
  pub shaped : Shaped (store_of f heights slots)
  pub all : total f.m (stack (store_of f heights slots)) + f.e ≡ sum f.m (depth_in f)
