-- `answer_row` meets its contract: the next order is as it came, and receives its answer.
use Rattle.std.proofs.Common.{◌<◌, length, subst, add-one, arith}
use Rattle.orders.specs.declared.Order.{Order}
use Rattle.orders.specs.Orders.{OrderIs}
use Rattle.orders.proofs.Rows.{none, upto_next, upto_step, upto_end}
use Rattle.orders.proofs.answer_row.Goals as goal

pub loop-order-init : goal.loop-order-init
loop-order-init c = none

pub loop-order-preserved : goal.loop-order-preserved
loop-order-preserved c =
    let u = c.loop-order.invariant in
    let h : c.loop-order.order-index < length c.args.orders.now = omega arith in
    rw add-one (upto_step u h _ c.answered.result (subst (λ (o : Order). OrderIs c.args.s.now o c.answered.result) (upto_next u _) c.answered.ensures))

pub returns : goal.returns
returns c = upto_end c.loop-order.invariant (omega arith)
