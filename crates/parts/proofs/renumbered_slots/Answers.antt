-- `renumbered_slots` meets its contract. The invariant: the places passed have their values.
use mathlib.Core.Path.{refl}
use native.Mathlib.Numerals.{add-one}
use native.Mathlib.Omega.{arith}
use Rattle.parts.proofs.Tabulated.{filled_none, filled_more, filled_all}
use Rattle.parts.proofs.renumbered_slots.Goals as goal

pub loop-p-init : goal.loop-p-init
loop-p-init c = filled_none _ refl

pub loop-p-preserved : goal.loop-p-preserved
loop-p-preserved c = rw add-one (filled_more _ c.loop-p.invariant (omega arith) c.row_at.ensures)

pub returns : goal.returns
returns c = filled_all _ c.loop-p.invariant (omega arith)
