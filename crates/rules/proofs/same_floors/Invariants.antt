-- `same_floors` meets its contract. The invariant: the floors of the shafts passed agree.
use mathlib.Core.Path.{◌≡◌}
use Prim.Native.Nat.{ℕ, ◌-◌, ◌<◌}
use Rattle.depths.specs.Depths.{depth_by}
use Rattle.rows.specs.Rows.{rows_up}
use Rattle.rules.proofs.same_floors.Given as goal

abbrev pub invariant-loop-x : goal.invariant-loop-x
invariant-loop-x l = (y : ℕ) → y < l.x → rows_up l.a y (depth_by l.depths y - l.e) ≡ rows_up l.b y (depth_by l.depths y - l.e)
