-- `too_little` meets its contract: what is lent is compared with the list space.
use native.Mathlib.Omega.{arith}
use Rattle.plans.proofs.ListSpace.{accepted_bounds, space_counted, below_decides}
use Rattle.plans.proofs.too_little.Goals as goal

pub list_space-requires : goal.list_space-requires
list_space-requires c =
    let p = c.requires in
    let f = accepted_bounds _ p.accepted in
    record { depths_fit = f.0; n_le_slot_count = omega (arith, p.n_value, f.1) }

pub returns : goal.returns
returns c =
    let e = space_counted c.args.start _ _ c.list_space.ensures (omega (arith, c.requires.n_value)) in
    below_decides _ _ _ (omega (arith, e))
