-- `rows_in_place` meets its contract. The invariant: the slots passed, from the fillable rows up, are empty.
use mathlib.Core.Path.{sym, ap, ◌∙◌}
use Prim.Native.Nat.{ℕ, suc}
use native.Mathlib.Decide.{ℕ_discrete}
use native.Mathlib.Omega.{arith}
use Rattle.lifts.specs.Lifting.{shown}
use Rattle.in_place.proofs.InPlace.{rows_past, slot_filled, rows_fit}
use Rattle.in_place.proofs.rows_in_place.Goals as goal

pub returns-then-rows-height_at : goal.returns-then-rows-height_at
returns-then-rows-height_at c = rows_past c.args.m c.args.heights.now c.args.slots.now c.args.x (omega (arith, c.if-rows-height_at.true, c.height_at.ensures, c.fillable_rows-rows.ensures))

pub returns-then-slot_at-ne0 : goal.returns-then-slot_at-ne0
unfolding shown
returns-then-slot_at-ne0 c =
    slot_filled c.args.m c.args.heights.now c.args.slots.now c.args.x c.loop-k.k c.loop-k-test.true
    (omega (arith, c.fillable_rows-rows.ensures, c.loop-k.auto.k)) (λ e. c.if-slot_at-ne0.true (c.slot_at.ensures ∙ e))

pub loop-k-preserved : goal.loop-k-preserved
unfolding shown
loop-k-preserved c = λ j h i. elim (ℕ_discrete j c.loop-k.k) [
  | yes q ↦ ap (λ (n : ℕ). shown c.args.slots.now c.args.x (suc n)) q ∙ sym c.slot_at.ensures ∙ c.if-slot_at-ne0.false
  | no q ↦ c.loop-k.invariant j h (omega arith)
]

pub returns : goal.returns
returns c =
    rows_fit c.args.m c.args.heights.now c.args.slots.now c.args.x (omega (arith, c.if-rows-height_at.false, c.height_at.ensures, c.fillable_rows-rows.ensures))
    (λ k h i. c.loop-k.invariant k (omega (arith, c.fillable_rows-rows.ensures)) (omega (arith, c.loop-k-test.false)))
