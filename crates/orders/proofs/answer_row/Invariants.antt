-- `answer_row` meets its contract. The invariant: the orders passed have their answers, and the others are as they came.
use Rattle.orders.proofs.Rows.{Upto}
use Rattle.orders.proofs.answer_row.Given as goal

abbrev pub invariant-loop-order : goal.invariant-loop-order
invariant-loop-order l = Upto l.s l.order-index l.initial.orders l.orders
