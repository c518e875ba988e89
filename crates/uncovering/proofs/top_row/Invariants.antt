-- `top_row` meets its contract. The invariant: it is met for the rows looked at.
use Rattle.uncovering.specs.Promises.{TopRowIs}
use Rattle.uncovering.proofs.top_row.Given as goal

abbrev pub invariant-loop-k : goal.invariant-loop-k
invariant-loop-k l = TopRowIs l.slots l.x l.k l.number l.top
