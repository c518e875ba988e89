-- `sum_of` meets its contract. The invariant: `all` is the sum of the heights passed, of which none is more than 255.
use mathlib.Core.Path.{◌≡◌}
use Prim.Native.Nat.{◌*◌, ◌≤◌}
use Rattle.stacks.specs.Count.{sum}
use Rattle.lifts.specs.Lifting.{height_in}
use Rattle.depths.proofs.sum_of.Given as goal

abbrev pub invariant-loop-x : goal.invariant-loop-x
invariant-loop-x l = (l.all ≡ sum l.x (height_in l.heights)) × (l.all ≤ 255 * l.x)
