-- `take_rows` meets its contract. The invariant: the rows passed were taken without a fault.
use mathlib.Core.Path.{subst}
use Prim.Native.Nat.{ℕ}
use native.Mathlib.Numerals.{add-one}
use Rattle.std.specs.Prelude.{Ok, Err}
use Rattle.std.proofs.lemmas.Result.{err_from_is_err_and}
use Rattle.marks.specs.Taking.{TakenIs}
use Rattle.lifts.specs.Lifting.{shown}
use Rattle.rows.proofs.Walked.{no_rows, row_taken, row_refused}
use Rattle.rows.proofs.take_rows.Goals as goal

pub loop-k-init : goal.loop-k-init
loop-k-init c = no_rows _ _ _

pub returns-in_err-take : goal.returns-in_err-take
unfolding shown
returns-in_err-take c =
    let p = err_from_is_err_and c.from_residual.result c.from_residual.ensures.1 in
    rw (p.1, p.2)
    (row_refused c.loop-k.invariant _ c.args.rows (subst (λ (v : ℕ). TakenIs c.loop-k.marks v c.take.new.words (Err c.in_err-take.field-0.0)) c.slot_at.ensures c.in_err-take.ensures) c.loop-k-test.true)

pub loop-k-preserved : goal.loop-k-preserved
unfolding shown
loop-k-preserved c =
    rw add-one (row_taken c.loop-k.invariant (subst (λ (v : ℕ). TakenIs c.loop-k.marks v c.take.new.words (Ok tt)) c.slot_at.ensures c.in_ok-take.ensures))
