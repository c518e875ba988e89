-- What the parts of writing ask for.
use Rattle.std.specs.Prelude.{List, ℕ, ◌≤◌, ◌<◌}
use Rattle.lifts.specs.Lifting.{most_shafts, most_rows, height_in}
use Rattle.depths.specs.Depths.{depth_by}

-- the arrays have shaft x and its rows, and its depth and its height fit their fields
pub record CanWrite (depths heights : List ℕ) (x : ℕ) : Type 0 where
  pub below : x < most_shafts
  pub some : 0 < depth_by depths x
  pub most : depth_by depths x ≤ most_rows
  pub rows : height_in heights x ≤ most_rows

abbrev pub CanWriteBelow : List ℕ → List ℕ → ℕ → Type 0
CanWriteBelow depths heights shafts = (x : ℕ) → x < shafts → CanWrite depths heights x
