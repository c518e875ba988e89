-- `deepest_of` meets its contract. The invariant: the greatest of the depths passed.
use mathlib.Core.Path.{refl}
use native.Mathlib.Numerals.{add-one}
use native.Mathlib.Omega.{arith}
use Rattle.stacks.specs.Count.{greatest}
use Rattle.depths.proofs.deepest_of.Goals as goal

pub loop-x-init : goal.loop-x-init
unfolding greatest
loop-x-init c = refl

pub loop-x-preserved : goal.loop-x-preserved
unfolding greatest
loop-x-preserved c = rw add-one (omega (arith, c.max-most.ensures))
