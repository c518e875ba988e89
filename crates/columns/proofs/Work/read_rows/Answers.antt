-- `read_rows` meets its contract: no row, one more, or a fault in one, which ends the rows.
use Rattle.std.proofs.lemmas.Result.{err_from_is_err_and}
use Rattle.columns.proofs.Parts.{no_rows, row_more, row_refused, row_missing}
use Rattle.columns.proofs.Work.read_rows.Goals as goal

pub loop-k-init : goal.loop-k-init
loop-k-init c = no_rows _ _ _ c.args.self.now

pub returns-in_err-value : goal.returns-in_err-value
returns-in_err-value c =
    let p = err_from_is_err_and c.from_residual.result c.from_residual.ensures.1 in
    let a = c.args in
    rw (p.1, p.2) (row_missing a.image.now a.w a.x c.loop-k.k c.loop-k.invariant a.rows c.loop-k-test.true c.in_err-value.ensures)

pub returns-in_err-take_cassette : goal.returns-in_err-take_cassette
returns-in_err-take_cassette c =
    let r = c.from_residual-in_err-take_cassette in
    let p = err_from_is_err_and r.result r.ensures.1 in
    let a = c.args in
    rw (p.1, p.2) (row_refused a.image.now a.w a.x c.loop-k.k c.loop-k.invariant a.rows c.loop-k-test.true c.in_ok-value.ensures c.in_err-take_cassette.ensures)

pub loop-k-preserved : goal.loop-k-preserved
loop-k-preserved c = let a = c.args in row_more a.image.now a.w a.x c.loop-k.k c.loop-k.invariant c.in_ok-value.ensures c.in_ok-take_cassette.ensures
