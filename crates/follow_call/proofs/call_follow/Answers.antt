-- `call_follow` meets its contract: the image's fault or 10, or the log's answer and the image of the store reached.
use mathlib.Core.Path.{refl, sym, ap, ◌∙◌}
use native.Mathlib.Omega.{arith}
use Rattle.calls.proofs.HandedBack.{back_refused, lent_answer_number, lent_some}
use Rattle.follow_call.proofs.FollowAnswers.{follow_answered}
use Rattle.follow_call.proofs.call_follow.Goals as goal

pub returns-in-Err : goal.returns-in-Err
returns-in-Err c =
    let e = ap lent_answer_number (sym c.in-Err.is) ∙ c.read_lent-lent.ensures.number in
    back_refused _ _ _ c.refused.ensures (c.number.ensures ∙ e) (λ z. lent_some _ (sym c.number.ensures ∙ z))

pub trace-traced-requires : goal.trace-traced-requires
trace-traced-requires c = c.read_lent-lent.ensures.accepted (ap lent_answer_number c.in_default.is)

pub returns : goal.returns
returns c =
    follow_answered _ (λ i. omega (arith, c.type_inv.image i)) _ c.read_lent-lent.ensures (ap lent_answer_number c.in_default.is) c.trace-traced.ensures c.form_in.ensures c.write.ensures c.number-2.ensures c.answer.ensures
