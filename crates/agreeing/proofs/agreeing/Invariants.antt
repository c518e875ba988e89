-- `agreeing` meets its contract.
use Rattle.agreeing.proofs.AgreeLaws.{ComparedTo}
use Rattle.agreeing.proofs.agreeing.Given as goal

abbrev pub invariant-loop-x : goal.invariant-loop-x
invariant-loop-x l = ComparedTo l.start.heights l.start.slots l.goal.heights l.goal.slots l.done l.x
