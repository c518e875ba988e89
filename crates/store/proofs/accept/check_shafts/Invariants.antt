-- `check_shafts` meets its contract. The invariant: the shafts passed were taken without a fault.
use Rattle.store.proofs.Walked.{ShaftsSoFar}
use Rattle.store.proofs.accept.check_shafts.Given as goal

abbrev pub invariant-loop-x : goal.invariant-loop-x
invariant-loop-x l = ShaftsSoFar l.s l.x l.marks
