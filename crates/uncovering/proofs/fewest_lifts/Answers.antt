-- `fewest_lifts` meets its contract: the answer of the shafts passed and that of the next give the answer of both.
use mathlib.Core.Path.{◌≡◌}
use Prim.Native.Nat.{◌+◌}
use native.Mathlib.Omega.{arith}
use Rattle.store.proofs.Acceptance.{accepted_shaped}
use Rattle.uncovering.proofs.Nearest.{nearer_of_both}
use Rattle.uncovering.proofs.Rule.{by_places}
use Rattle.uncovering.proofs.fewest_lifts.Goals as goal

pub loop-x-preserved : goal.loop-x-preserved
loop-x-preserved c =
    let x = c.loop-x.x in
    rw c.nearer-best.ensures
    (nearer_of_both c.args.s.now c.args.number 0 x (x + 1) (omega arith) (omega arith) c.loop-x.best c.in_shaft.result c.loop-x.invariant c.in_shaft.ensures)

pub returns : goal.returns
returns c =
    let e : c.loop-x.x ≡ c.args.s.now.m = omega (arith, c.loop-x-test.false) in
    by_places _ (accepted_shaped _ c.requires.accepted) c.args.number c.loop-x.best (rw e at c.loop-x.invariant)
