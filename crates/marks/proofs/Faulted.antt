-- Laws of the first of two faults, and of a number under a test.
use mathlib.Core.Bool.{Bool, true, false, not, ◌&&◌}
use mathlib.Core.Path.{◌≡◌, refl, sym}
use Prim.Native.Nat.{ℕ, zero, suc}
use native.Mathlib.Omega.{arith}
use Rattle.stacks.proofs.Deciding.{true_false}
use Rattle.marks.specs.Cassettes.{given, first}

pub first_none : (a b : ℕ) → first a b ≡ 0 → (a ≡ 0) × (b ≡ 0)
first_none zero b e = (refl, e)
first_none (suc a) b e = absurd (omega arith)

-- where one fault is none, the other is the first
pub first_skips : (a b : ℕ) → a ≡ 0 → first a b ≡ b
first_skips a b e = rw e

-- a fault that is one comes before any other
pub first_stays : (a b : ℕ) → (a ≡ 0 → ⊥) → first a b ≡ a
first_stays zero b n = absurd (n refl)
first_stays (suc a) b n = refl

-- what holds of both faults holds of the first
pub first_either : (P : ℕ → Type 0) (a b : ℕ) → P a → P b → P (first a b)
first_either P zero b p q = q
first_either P (suc a) b p q = p

-- what holds of a number, and of none, holds of the number under a test
pub given_either : (P : ℕ → Type 0) (t : Bool) (k : ℕ) → P 0 → P k → P (given t k)
given_either P true k p q = q
given_either P false k p q = p

pub given_none : (t : Bool) (k : ℕ) → given t (suc k) ≡ 0 → t ≡ false
given_none true k e = absurd (omega arith)
given_none false k e = refl

pub not_given : (t : Bool) (k : ℕ) → given (not t) (suc k) ≡ 0 → t ≡ true
not_given true k e = refl
not_given false k e = absurd (omega arith)

pub both_true : (s t : Bool) → (s && t) ≡ true → (s ≡ true) × (t ≡ true)
both_true true t e = (refl, e)
both_true false t e = (e, absurd (true_false (sym e)))
