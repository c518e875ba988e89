-- `lift` meets its contract: the store's own fault, or what was tried in the store.
use Rattle.store.proofs.Acceptance.{accepted_shaped}
use Rattle.store.proofs.Lifting.{store_refused, lift_made, lift_refused}
use Rattle.store.proofs.Store.lift.Goals as goal

pub returns-in-Err : goal.returns-in-Err
returns-in-Err c = store_refused c.args.self _ _ _ _ c.in-Err.ensures.has c.nothing.ensures

pub try_lift-requires : goal.try_lift-requires
try_lift-requires c = accepted_shaped c.args.self c.in_default.ensures.0

pub returns-in-Ok : goal.returns-in-Ok
returns-in-Ok c = lift_made c.args.self _ _ _ c.in_default.ensures.0 _ c.in-Ok.ensures

pub returns-in-Err-try_lift : goal.returns-in-Err-try_lift
returns-in-Err-try_lift c = lift_refused c.args.self _ _ _ c.in_default.ensures.0 _ _ c.in-Err-try_lift.ensures c.nothing-in-Err-try_lift.ensures
