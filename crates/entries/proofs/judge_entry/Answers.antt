-- `judge_entry` meets its contract: a lift is judged by the depth and the heights, and a sighting is not.
use mathlib.Core.Path.{◌≡◌, sym, ◌∙◌}
use Prim.Native.Nat.{ℕ}
use Rattle.std.proofs.lemmas.Result.{err_from_is_err_and}
use Rattle.lifts.specs.Lifting.{refusal_by}
use Rattle.store.specs.declared.Store.{Store}
use Rattle.store.specs.Slots.{depth, height}
use Rattle.store.proofs.Lifting.{judged_in}
use Rattle.entries.specs.declared.Entry.{Entry}
use Rattle.entries.specs.Promises.{lift_fault}
use Rattle.entries.proofs.Comparing.{formed, never_eleven}
use Rattle.entries.proofs.judge_entry.Goals as goal

lift_judged : (s : Store) (e : Entry) {d left entered : ℕ} → e.kind ≡ 0 → d ≡ depth s e.second.0 → left ≡ height s e.shaft.0 → entered ≡ height s e.second.0
    → refusal_by s.m d e.shaft.0 e.second.0 left entered ≡ lift_fault s e
lift_judged s e z f g h = judged_in s _ _ f g h ∙ rw z

pub returns-in_err-judge : goal.returns-in_err-judge
returns-in_err-judge c =
    let a = c.args in
    let p = err_from_is_err_and c.from_residual.result c.from_residual.ensures.1 in
    let j = c.in_err-judge.ensures.has in
    rw p.1
    (p.2 (λ z. never_eleven _ a.e _ _ _ (formed _ a.e c.requires) c.if-e-ne0.false (sym j ∙ z))
    ∙ j
    ∙ lift_judged a.s.now a.e c.if-e-ne0.false c.depth_of-depth.ensures c.height_of-left.ensures c.height_of-entered.ensures)

pub returns : goal.returns
returns c = c.in_ok-judge.ensures.has ∙ lift_judged c.args.s.now c.args.e c.if-e-ne0.false c.depth_of-depth.ensures c.height_of-left.ensures c.height_of-entered.ensures
