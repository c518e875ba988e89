-- Enough is lent for every store.
use native.Mathlib.Omega.{arith}
use Rattle.plans.proofs.PlanExact.{space_suffices}
use Rattle.plan.proofs.planned.Goals as goal

pub returns : goal.returns
returns c = space_suffices _ _ _ _ _ c.make_list.ensures (omega (arith, c.requires))
