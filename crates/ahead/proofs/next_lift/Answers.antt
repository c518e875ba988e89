-- `next_lift` meets its contract.
use native.Mathlib.Omega.{arith}
use Rattle.ahead.proofs.AheadLaws.{to_b, from_a, itself, from_b}
use Rattle.ahead.proofs.next_lift.Goals as goal

pub returns-then-tight : goal.returns-then-tight
returns-then-tight c = to_b c.args.n c.tight.ensures (omega (arith, c.if-n-gt0.true)) c.if-tight.true

pub returns-then-n-gt0 : goal.returns-then-n-gt0
returns-then-n-gt0 c = from_a c.args.n c.tight.ensures (omega (arith, c.if-n-gt0.true)) c.if-tight.false c.aside-c.ensures

pub returns-then-tight-2 : goal.returns-then-tight-2
returns-then-tight-2 c = itself c.args.n c.tight-2.ensures (omega (arith, c.if-n-gt0.false)) c.if-tight-2.true c.aside-c.ensures

pub returns : goal.returns
returns c = from_b c.args.n c.tight-2.ensures (omega (arith, c.if-n-gt0.false)) c.requires.outside_nonzero.1 c.if-tight-2.false c.aside-c.ensures
