-- `renumbered` meets its contract. The invariant: the places passed have their values.
use mathlib.Core.Path.{refl}
use native.Mathlib.Numerals.{add-one}
use native.Mathlib.Omega.{arith}
use Rattle.parts.proofs.Tabulated.{filled_none, filled_more, filled_all}
use Rattle.parts.proofs.renumbered.Goals as goal

pub loop-i-init : goal.loop-i-init
loop-i-init c = filled_none _ refl

pub loop-i-preserved : goal.loop-i-preserved
loop-i-preserved c = rw add-one (filled_more _ c.loop-i.invariant (omega arith) c.value_at.ensures)

pub returns : goal.returns
returns c = filled_all _ c.loop-i.invariant (omega arith)
