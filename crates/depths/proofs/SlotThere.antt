-- Which slots there are: what `slot_there` says of a shaft and a row.
use borrow.Author.Tests.{ltb-true, leb-true}
use mathlib.Core.Bool.{true, ◌&&◌}
use mathlib.Core.List.{List}
use mathlib.Core.Path.{◌≡◌}
use Prim.Native.Nat.{ℕ, ◌≤◌, ◌<◌}
use lib.Dec.{leb, ltb}
use Rattle.std.proofs.lemmas.Bool.{and_parts}
use Rattle.lifts.specs.Lifting.{most_shafts, most_rows}
use Rattle.depths.specs.Depths.{depth_by, slot_there}

module _ (m : ℕ) (depths : List ℕ) (x y : ℕ) where
  module _ (e : slot_there m depths x y ≡ true) where
    pub slot_range : (x < most_shafts) × ((0 < y) × (y ≤ most_rows))
    slot_range =
        let p = and_parts ((ltb x m && ltb x most_shafts) && ltb 0 y) _ e in
        let q = and_parts (ltb x m && ltb x most_shafts) _ p.0 in
        (ltb-true x most_shafts (and_parts (ltb x m) _ q.0).1, (ltb-true 0 y q.1, leb-true y most_rows (and_parts (leb y (depth_by depths x)) _ p.1).1))
