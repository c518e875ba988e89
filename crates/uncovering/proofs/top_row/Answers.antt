-- `top_row` meets its contract: a row that shows the number is the highest so far.
use native.Mathlib.Numerals.{add-one}
use Rattle.uncovering.proofs.TopRow.{row_shows, row_other}
use Rattle.uncovering.proofs.top_row.Goals as goal
use Rattle.uncovering.proofs.top_row.Goals.{then-slot_at-number, else-slot_at-number}

pub loop-k-preserved : goal.loop-k-preserved
loop-k-preserved c = elim c.if-slot_at-number.branch [
  | then-slot_at-number w ↦ rw (w.top-is, add-one) (row_shows _ _ _ _ _ _ c.loop-k.invariant c.slot_at.ensures w.if-slot_at-number.true)
  | else-slot_at-number w ↦ rw (w.top-is, add-one) (row_other _ _ _ _ _ _ c.loop-k.invariant c.slot_at.ensures w.if-slot_at-number.false)
]
