-- `agreeing_rows` meets its contract.
use native.Mathlib.Omega.{arith}
use Rattle.agreeing.proofs.AgreeLaws.{agree_stopped, agree_all}
use Rattle.agreeing.proofs.agreeing_rows.Goals as goal

pub returns-then-slots-p : goal.returns-then-slots-p
returns-then-slots-p c =
    let a = c.args in
    agree_stopped a.slots.now a.goal.now a.x.0 a.most c.loop-k.k (omega arith) c.loop-k.invariant c.if-slots-p.true

pub returns : goal.returns
returns c =
    let a = c.args in
    agree_all a.slots.now a.goal.now a.x.0 a.most λ j h. c.loop-k.invariant j (omega (arith, c.loop-k-test.false))
