-- No two judgements of a lift have the same number: each is the only one with its own. And how that is proved of any error and any result.
use mathlib.Core.Bool.{cond}
use mathlib.Core.Path.{◌≡◌, refl, sym, ap, ◌∙◌}
use Prim.Native.Nat.{ℕ}
use borrow.Author.Tests.{ne_eqb}
use Rattle.std.specs.Prelude.{Result, Ok, Err}
use Rattle.marks.specs.Taking.{result_number}
use native.Mathlib.Omega.{arith}
use lib.Dec.{eqb}
use Rattle.lifts.specs.declared.Refusal.{Refusal}
use Rattle.lifts.specs.declared.Refusal.TheVariants.{Shafts, Empty, Full}
use Rattle.lifts.specs.Numbers.{Only, OnlyError, ResultIs, refusal_number, judged_number}

-- where each answer can be told from its number, it is the only one with it
pub only_by : {A : Type 0} {number : A → ℕ} (told : ℕ → A) → ((a : A) → told (number a) ≡ a) → {k : ℕ} {a : A} → number a ≡ k → Only number k a
only_by told e {k} {a} h = record { has = h; alone = λ b i. sym (e b) ∙ ap told (i ∙ sym h) ∙ e a }

-- and where besides no error has the number 0, so is a result
module _ {E : Type 0} {number : E → ℕ} (told : ℕ → E) (each : (e : E) → told (number e) ≡ e) (some : (e : E) → number e ≡ 0 → ⊥) where
  result_told : ℕ → Result Unit E
  result_told k = cond (eqb k 0) (Ok tt) (Err (told k))

  told_back : (r : Result Unit E) → result_told (result_number number r) ≡ r
  unfolding result_told
  told_back (Ok a) = refl
  told_back (Err e) = rw (ne_eqb (number e) 0 (some e)) (ap Err (each e))

  pub only_result : {k : ℕ} {r : Result Unit E} → result_number number r ≡ k → Only (result_number number) k r
  only_result = only_by result_told told_back

-- an error where none has the number 0
pub only_error : {E : Type 0} {number : E → ℕ} → ((e : E) → number e ≡ 0 → ⊥) → {k : ℕ} {e : E} → Only number k e → OnlyError number k e
only_error some p = record { has = p.has; alone = p.alone; some = some }

-- no two results keep the promise, where no two values do
pub result_exact : {A E : Type 0} (number : E → ℕ) (k : ℕ) (P : A → Type 0) → ((a b : A) → P a → P b → a ≡ b) → (q r : Result A E) → ResultIs number k P q → ResultIs number k P r → q ≡ r
result_exact number k P same (Ok a) (Ok b) p o = ap Ok (same a b p.1.0 o.1.0)
result_exact number k P same (Ok a) (Err e) p o = absurd (o.some e (o.has ∙ p.0))
result_exact number k P same (Err d) (Ok b) p o = absurd (p.some d (p.has ∙ o.0))
result_exact number k P same (Err d) (Err e) p o = ap Err (o.alone d p.has)

pub refusal_one : (r : Refusal) → refusal_number r ≡ 0 → ⊥
refusal_one Shafts e = omega arith
refusal_one Empty e = omega arith
refusal_one Full e = omega arith

refusal_told : ℕ → Refusal
refusal_told k = cond (eqb k 11) Shafts (cond (eqb k 13) Empty Full)

refusal_each : (r : Refusal) → refusal_told (refusal_number r) ≡ r
unfolding refusal_told
refusal_each Shafts = refl
refusal_each Empty = refl
refusal_each Full = refl

pub only_refusal : {k : ℕ} {r : Refusal} → refusal_number r ≡ k → Only refusal_number k r
only_refusal = only_by refusal_told refusal_each

pub only_judged : {k : ℕ} {r : Result Unit Refusal} → judged_number r ≡ k → Only judged_number k r
only_judged = only_result refusal_told refusal_each refusal_one
