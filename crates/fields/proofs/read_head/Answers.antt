-- `read_head` meets its contract: two fields or three, one after the other, up to the first fault.
use Rattle.std.proofs.lemmas.Result.{err_from_is_err_and}
use Rattle.fields.proofs.Steps.{form_missing, form_wrong, size_missing, depth_missing, head_read}
use Rattle.fields.proofs.read_head.Goals as goal

pub returns-in_err-form : goal.returns-in_err-form
returns-in_err-form c =
    let p = err_from_is_err_and c.from_residual.result c.from_residual.ensures.1 in
    rw (p.1, p.2) (form_missing c.args.image.now _ c.in_err-form.ensures)

pub returns-then-form-gt2 : goal.returns-then-form-gt2
returns-then-form-gt2 c = form_wrong c.args.image.now c.in_ok-form.ensures c.if-form-gt2.true

pub returns-in_err-size : goal.returns-in_err-size
returns-in_err-size c =
    let p = err_from_is_err_and c.from_residual-in_err-size.result c.from_residual-in_err-size.ensures.1 in
    rw (p.1, p.2) (size_missing c.args.image.now c.in_ok-form.ensures c.if-form-gt2.false _ c.in_err-size.ensures)

pub returns-in_err-depth : goal.returns-in_err-depth
returns-in_err-depth c =
    let p = err_from_is_err_and c.from_residual-in_err-depth.result c.from_residual-in_err-depth.ensures.1 in
    rw (p.1, p.2) (depth_missing c.args.image.now c.in_ok-form.ensures c.if-form-gt2.false c.in_ok-size.ensures _ (rw c.own_depths.ensures at c.in_err-depth.ensures))

pub returns : goal.returns
returns c = head_read c.args.image.now c.in_ok-form.ensures c.if-form-gt2.false c.in_ok-size.ensures (rw c.own_depths.ensures at c.in_ok-depth.ensures)
