-- `write_shafts` meets its contract: after x turns the shafts below x are written.
use native.Mathlib.Omega.{arith}
use Rattle.image.proofs.Lengths.{shafts_within}
use Rattle.image_parts.proofs.PartLaws.{no_shafts, shaft_more}
use Rattle.image_parts.proofs.write_shafts.Goals as goal

pub loop-x-init : goal.loop-x-init
loop-x-init c = no_shafts _ _ _ _ _ c.args.p c.requires.full_bound.0

pub write_shaft-q-requires-clause-full_bound : goal.write_shaft-q-requires-clause-full_bound
write_shaft-q-requires-clause-full_bound c =
    let k = c.loop-x in
    let s = c.args.s.now in
    (k.invariant.full, omega (arith, c.requires.full_bound.1, k.invariant.count, k.invariant.same_length, shafts_within c.args.form s.depths s.heights s.slots k.x s.m c.loop-x-test.true))

pub loop-x-preserved : goal.loop-x-preserved
loop-x-preserved c = shaft_more _ _ _ _ c.loop-x.x c.loop-x.invariant c.write_shaft-q.ensures
