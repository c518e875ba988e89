-- `place` meets its contract.
use mathlib.Core.Path.{refl}
use native.Mathlib.Omega.{arith}
use Rattle.placing.proofs.Underway.{see_first, underway_first, next_ready, entered_room, lift_ready, see_next, underway_next, last_ready, placed_last}
use Rattle.placing.proofs.place.place.Goals as goal

pub look_ahead-view-requires : goal.look_ahead-view-requires
look_ahead-view-requires c =
    let p = see_first _ _ _ _ _ _ _ c.requires.held c.requires.can_place in
    record { fits = p.0; can_see = p.1 }

pub loop-view-init : goal.loop-view-init
loop-view-init c = underway_first _ _ _ _ _ _ _ c.requires.held c.requires.can_place _ _ _ c.look_ahead-view.ensures

pub next_lift-t-requires : goal.next_lift-t-requires
next_lift-t-requires c =
    let p = next_ready c.loop-view.invariant (omega (arith, c.loop-view-test.true)) in
    record { fits = p.0; outside_nonzero = p.1.0; cover_bound = p.1.1.0; some_outside = p.1.1.1 }

pub bounds-work-t : goal.bounds-work-t
bounds-work-t c = (entered_room c.loop-view.invariant c.next_lift-t.ensures).0

pub put_lift-n-requires : goal.put_lift-n-requires
put_lift-n-requires c =
    let p = lift_ready c.loop-view.invariant c.next_lift-t.ensures c.requires.row_in_bounds in
    record { can_carry = p.0; count_in_bounds = p.1 }

pub follow-at-requires : goal.follow-at-requires
follow-at-requires c = (entered_room c.loop-view.invariant c.next_lift-t.ensures).1

pub look_ahead-view-requires-in-loop-view : goal.look_ahead-view-requires-in-loop-view
look_ahead-view-requires-in-loop-view c =
    let p = see_next c.loop-view.invariant c.next_lift-t.ensures c.requires.row_in_bounds c.put_lift-n.ensures refl refl refl refl c.follow-at.ensures in
    record { fits = p.0; can_see = p.1 }

pub loop-view-smaller : goal.loop-view-smaller
loop-view-smaller c = (underway_next c.loop-view.invariant c.next_lift-t.ensures c.requires.row_in_bounds c.put_lift-n.ensures refl refl refl refl c.follow-at.ensures _ c.look_ahead-view-in-loop-view.ensures).1

pub loop-view-preserved : goal.loop-view-preserved
loop-view-preserved c = (underway_next c.loop-view.invariant c.next_lift-t.ensures c.requires.row_in_bounds c.put_lift-n.ensures refl refl refl refl c.follow-at.ensures _ c.look_ahead-view-in-loop-view.ensures).0

pub put_lift-requires : goal.put_lift-requires
put_lift-requires c =
    let p = last_ready c.loop-view.invariant (omega (arith, c.loop-view-test.false)) c.requires.row_in_bounds in
    record { can_carry = p.0; count_in_bounds = p.1 }

pub returns : goal.returns
returns c = placed_last c.loop-view.invariant (omega (arith, c.loop-view-test.false)) c.requires.held c.requires.can_place c.requires.row_in_bounds c.put_lift.ensures
