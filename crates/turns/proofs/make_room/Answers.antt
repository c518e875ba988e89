-- `make_room` meets its contract.
use Rattle.turns.proofs.Turns.{see, has_room, nothing_there, lend_ready, turn_ready, turned_is}
use Rattle.turns.proofs.make_room.Goals as goal
use Rattle.turns.proofs.make_room.Goals.{then-view-gt0-via-then-view-gt0, then-view-gt0-via-else-view-gt0+then-view-eq0}

pub look_ahead-view-requires-clause-can_see : goal.look_ahead-view-requires-clause-can_see
look_ahead-view-requires-clause-can_see c = (see c.requires.ready).1

pub returns-then-view-gt0 : goal.returns-then-view-gt0
returns-then-view-gt0 c = elim c.then-view-gt0.branch [
  | then-view-gt0-via-then-view-gt0 w ↦ has_room c.requires.ready _ c.look_ahead-view.ensures _ _ w.if-view-gt0.true
  | then-view-gt0-via-else-view-gt0+then-view-eq0 w ↦ nothing_there c.requires.ready _ c.look_ahead-view.ensures _ _ w.if-view-eq0.true
]

pub lend-owed-requires-clause-c_bound : goal.lend-owed-requires-clause-c_bound
lend-owed-requires-clause-c_bound c =
    (lend_ready c.requires.ready _ c.look_ahead-view.ensures c.args.count c.args.out.now c.if-view-gt0.false _ c.third-c.ensures).0

pub lend-owed-requires-clause-c_bound_2 : goal.lend-owed-requires-clause-c_bound_2
lend-owed-requires-clause-c_bound_2 c =
    (lend_ready c.requires.ready _ c.look_ahead-view.ensures c.args.count c.args.out.now c.if-view-gt0.false _ c.third-c.ensures).1

pub put_lift-end-requires-clause-can_carry : goal.put_lift-end-requires-clause-can_carry
put_lift-end-requires-clause-can_carry c =
    (turn_ready c.requires.ready _ c.look_ahead-view.ensures c.args.count c.args.out.now c.if-view-gt0.false _ c.third-c.ensures
    c.lend-owed.new.done c.lend-owed.result c.lend-owed.ensures c.requires.count_in_bounds).0

pub returns : goal.returns
returns c =
    turned_is c.requires.ready _ c.look_ahead-view.ensures c.args.count c.args.out.now c.if-view-gt0.false _ c.third-c.ensures
    c.lend-owed.new.done c.lend-owed.result c.lend-owed.ensures c.requires.count_in_bounds c.put_lift-end.ensures
