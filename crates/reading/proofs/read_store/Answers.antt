-- `read_store` meets its contract: the head, the shafts and the end, up to the first fault.
use Rattle.std.proofs.lemmas.Result.{err_from_is_err_and}
use Rattle.reading.proofs.Endings.{shafts_stop, body_ends}
use Rattle.reading.proofs.read_store.Goals as goal

pub returns-in_err-read_shafts : goal.returns-in_err-read_shafts
returns-in_err-read_shafts c =
    let r = c.from_residual-in_err-read_shafts in
    let p = err_from_is_err_and r.result r.ensures.1 in
    rw (p.1, p.2) (shafts_stop c.args.image.now c.in_ok-head.ensures c.none.ensures _ (rw c.empty.ensures at c.in_err-read_shafts.ensures))

pub returns-in_err-finished : goal.returns-in_err-finished
returns-in_err-finished c =
    let r = c.from_residual-in_err-finished in
    let p = err_from_is_err_and r.result r.ensures.1 in
    rw (p.1, p.2) (body_ends c.args.image.now c.in_ok-head.ensures c.none.ensures (rw c.empty.ensures at c.in_ok-read_shafts.ensures) c.in_err-finished.ensures)

pub returns : goal.returns
returns c = body_ends c.args.image.now c.in_ok-head.ensures c.none.ensures (rw c.empty.ensures at c.in_ok-read_shafts.ensures) c.in_ok-finished.ensures
