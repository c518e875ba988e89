-- `next` meets its contract.
use mathlib.Core.Path.{refl}
use Rattle.lifts.specs.Lifting.{shown}
use Rattle.agreeing.proofs.next.Goals as goal

pub returns : goal.returns
unfolding shown
returns c = refl
