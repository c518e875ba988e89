-- `take_rows` meets its contract. The invariant: the rows passed were taken without a fault.
use Rattle.rows.proofs.Walked.{RowsSoFar}
use Rattle.rows.proofs.take_rows.Given as goal

abbrev pub invariant-loop-k : goal.invariant-loop-k
invariant-loop-k l = RowsSoFar l.initial.marks l.slots l.x l.k l.marks
