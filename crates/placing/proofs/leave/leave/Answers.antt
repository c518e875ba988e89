-- `leave` meets its contract.
use mathlib.Core.Path.{refl}
use Rattle.placing.proofs.Leaving.{leaving_first, aside_ready, leaving_next, left_last}
use Rattle.placing.proofs.leave.leave.Goals as goal

pub loop-work-init : goal.loop-work-init
loop-work-init c = leaving_first _ _ _ _ _ c.requires.held c.requires.can_leave _ _

pub aside-c-requires-clause-some_outside : goal.aside-c-requires-clause-some_outside
aside-c-requires-clause-some_outside c = (aside_ready c.requires.can_leave c.requires.row_in_bounds c.loop-work.invariant).1

pub loop-work-smaller : goal.loop-work-smaller
loop-work-smaller c = (leaving_next c.requires.can_leave c.requires.row_in_bounds c.loop-work.invariant c.aside-c.ensures c.put_lift-n.ensures c.loop-work-test.true).1

pub loop-work-preserved : goal.loop-work-preserved
loop-work-preserved c = (leaving_next c.requires.can_leave c.requires.row_in_bounds c.loop-work.invariant c.aside-c.ensures c.put_lift-n.ensures c.loop-work-test.true).0

pub aside-shaft-requires-clause-some_outside : goal.aside-shaft-requires-clause-some_outside
aside-shaft-requires-clause-some_outside c = (aside_ready c.requires.can_leave c.requires.row_in_bounds c.loop-work.invariant).1

pub returns : goal.returns
returns c = left_last c.requires.can_leave c.requires.row_in_bounds c.loop-work.invariant _ c.aside-shaft.ensures c.put_lift-end.ensures refl c.loop-work-test.false
