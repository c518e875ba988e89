-- `empty_slots` meets its contract: the slots less the cassettes, or 0 where there are no more slots than cassettes.
use native.Mathlib.Omega.{arith}
use Rattle.store.specs.Slots.{empty_count}
use Rattle.store.proofs.Counted.{heights_counted}
use Rattle.empties.proofs.empty_slots.Goals as goal

pub returns-then-n-all : goal.returns-then-n-all
unfolding empty_count
returns-then-n-all c = omega (arith, heights_counted c.args.s)

pub returns-else-n-all : goal.returns-else-n-all
unfolding empty_count
returns-else-n-all c = omega (arith, heights_counted c.args.s)
