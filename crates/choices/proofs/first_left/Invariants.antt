-- `first_left` meets its contract.
use Prim.Native.Nat.{ℕ, ◌≤◌, ◌<◌}
use Rattle.lifts.specs.Lifting.{height_in}
use Rattle.choices.proofs.first_left.Given as goal

abbrev pub invariant-loop-x : goal.invariant-loop-x
invariant-loop-x l = (y : ℕ) → y < l.x → height_in l.goal.heights y ≤ height_in l.done y
