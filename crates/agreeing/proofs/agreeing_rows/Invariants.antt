-- `agreeing_rows` meets its contract.
use Rattle.agreeing.proofs.AgreeLaws.{SameBelow}
use Rattle.agreeing.proofs.agreeing_rows.Given as goal

abbrev pub invariant-loop-k : goal.invariant-loop-k
invariant-loop-k l = SameBelow l.slots l.goal l.i l.k
