-- `read_shafts` meets its contract: no shaft, one more, or a fault in one, which ends the shafts.
use Rattle.std.proofs.lemmas.Result.{err_from_is_err_and}
use Rattle.columns.proofs.Parts.{no_shafts, shaft_more, shaft_stops}
use Rattle.columns.proofs.Work.read_shafts.Goals as goal

pub loop-x-init : goal.loop-x-init
loop-x-init c = no_shafts c.args.image.now c.args.head c.args.self.now

pub returns-in_err-read_shaft : goal.returns-in_err-read_shaft
returns-in_err-read_shaft c =
    let p = err_from_is_err_and c.from_residual.result c.from_residual.ensures.1 in
    rw (p.1, p.2) (shaft_stops c.args.image.now c.args.head c.loop-x.x c.loop-x.invariant c.args.self.now.store.m c.loop-x-test.true c.in_err-read_shaft.ensures)

pub loop-x-preserved : goal.loop-x-preserved
loop-x-preserved c = shaft_more c.args.image.now c.args.head c.loop-x.x c.loop-x.invariant c.in_ok-read_shaft.ensures
