-- `call_convert` meets its contract: the image's fault, or what writing its store gave.
use mathlib.Core.Path.{sym, ap, ◌∙◌}
use Rattle.image.specs.Numbers.{read_number}
use Rattle.calls.proofs.Readings.{unread}
use Rattle.convert_call.proofs.ConvertAnswers.{convert_refused, convert_answered}
use Rattle.convert_call.proofs.call_convert.Goals as goal

pub returns-in-Err : goal.returns-in-Err
returns-in-Err c =
    let e = ap read_number (sym c.in-Err.is) ∙ c.read_one-one.ensures.number in
    convert_refused c.refused.ensures (c.number.ensures ∙ e) (λ z. unread c.in-Err.is (c.read_one-one.ensures.number ∙ sym e ∙ sym c.number.ensures ∙ z))

pub returns : goal.returns
returns c =
    let r = c.read_one-one.ensures in
    convert_answered r.store (sym r.number ∙ ap read_number c.in_default.is) c.write.ensures c.answered.ensures
