-- `rows_in_place` meets its contract. The invariant: the slots passed, from the fillable rows up, are empty.
use mathlib.Core.Path.{◌≡◌}
use Prim.Native.Nat.{ℕ, suc, ◌≤◌, ◌<◌}
use Rattle.lifts.specs.Lifting.{shown}
use Rattle.in_place.proofs.rows_in_place.Given as goal

abbrev pub invariant-loop-k : goal.invariant-loop-k
invariant-loop-k l = (j : ℕ) → l.rows ≤ j → j < l.k → shown l.slots l.x (suc j) ≡ 0
