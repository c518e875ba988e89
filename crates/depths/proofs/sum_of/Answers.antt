-- `sum_of` meets its contract. The invariant: `all` is the sum of the heights passed, of which none is more than 255.
use mathlib.Core.Path.{refl}
use native.Mathlib.Numerals.{add-one}
use native.Mathlib.Omega.{arith}
use Rattle.stacks.specs.Count.{sum}
use Rattle.depths.proofs.sum_of.Goals as goal

pub loop-x-init : goal.loop-x-init
unfolding sum
loop-x-init c = (refl, omega arith)

pub loop-x-preserved : goal.loop-x-preserved
unfolding sum
loop-x-preserved c = (rw add-one (omega arith), omega arith)
