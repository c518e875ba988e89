-- `compare` meets its contract: 19, then 13 and 14, then 20.
use borrow.Author.Tests.{eqb-true, eqb-false}
use mathlib.Core.Path.{sym, ◌∙◌}
use native.Mathlib.Omega.{arith}
use Rattle.std.proofs.lemmas.Result.{err_from_is_err_and}
use Rattle.entries.proofs.Comparing.{formed, fault_malformed, fault_lift, fault_number_lem, fault_none}
use Rattle.entries.proofs.Numbered.{only_truth, untrue_one}
use Rattle.entries.proofs.compare.Goals as goal

pub returns-then-is_malformed : goal.returns-then-is_malformed
returns-then-is_malformed c = only_truth (sym (fault_malformed _ _ (sym c.is_malformed.ensures ∙ c.if-is_malformed.true)))

pub returns-in_err-judge_entry : goal.returns-in_err-judge_entry
returns-in_err-judge_entry c =
    let p = err_from_is_err_and c.from_residual.result c.from_residual.ensures.1 in
    let n = c.in_err-judge_entry.ensures in
    rw (p.1, p.2) (only_truth (n ∙ sym (fault_lift c.args.s.now c.args.e (sym c.is_malformed.ensures ∙ c.if-is_malformed.false) (λ z. untrue_one _ (n ∙ z)))))

pub shows-requires : goal.shows-requires
shows-requires c =
    let e = c.args.e in
    let p = c.requires in
    (omega (arith, (formed _ e (sym c.is_malformed.ensures ∙ c.if-is_malformed.false)).below, p.shafts), omega (arith, p.heights e.shaft.0, p.rows e.shaft.0))

pub returns-then-not-shows : goal.returns-then-not-shows
returns-then-not-shows c =
    only_truth
    (sym (fault_number_lem c.args.s.now c.args.e (sym c.is_malformed.ensures ∙ c.if-is_malformed.false) (sym c.in_ok-judge_entry.ensures) (eqb-false _ _ (sym c.shows.ensures ∙ c.if-not-shows.true))))

pub returns : goal.returns
returns c =
    only_truth
    (sym (fault_none c.args.s.now c.args.e (sym c.is_malformed.ensures ∙ c.if-is_malformed.false) (sym c.in_ok-judge_entry.ensures) (eqb-true _ _ (sym c.shows.ensures ∙ c.if-not-shows.false))))
