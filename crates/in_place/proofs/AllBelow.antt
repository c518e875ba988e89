-- Laws of the test of every number below a bound.
use mathlib.Core.Bool.{Bool, true, false}
use mathlib.Core.Path.{◌≡◌, refl}
use Prim.Native.Nat.{ℕ, zero, suc, ◌<◌}
use native.Mathlib.Nat.{not-suc-le-zero}
use native.Mathlib.Decide.{ℕ_discrete}
use native.Mathlib.Omega.{arith}
use Rattle.std.proofs.lemmas.Bool.{and_parts}
use Rattle.in_place.specs.InPlace.{all_below}

pub all_true : (n : ℕ) (p : ℕ → Bool) → all_below n p ≡ true → (k : ℕ) → k < n → p k ≡ true
unfolding all_below
all_true zero p e k h = absurd (not-suc-le-zero h)
all_true (suc n) p e k h =
    elim (ℕ_discrete k n) [
      | yes q ↦ rw q (and_parts (all_below n p) (p n) e).1
      | no q ↦ all_true n p (and_parts (all_below n p) (p n) e).0 k (omega arith)
    ]

pub all_of : (n : ℕ) (p : ℕ → Bool) → ((k : ℕ) → k < n → p k ≡ true) → all_below n p ≡ true
unfolding all_below
all_of zero p h = refl
all_of (suc n) p h = simp (all_of n p (λ k i. h k (omega arith)), h n (omega arith))

-- a test of one number more
pub all_more : (n : ℕ) (p : ℕ → Bool) → all_below n p ≡ true → p n ≡ true → all_below (suc n) p ≡ true
unfolding all_below
all_more n p e t = simp (e, t)

-- a test that fails at one number fails
pub all_fails : (n : ℕ) (p : ℕ → Bool) (k : ℕ) → k < n → p k ≡ false → all_below n p ≡ false
all_fails n p k h e = go (all_below n p) refl
  where
    go : (t : Bool) → all_below n p ≡ t → all_below n p ≡ false
    go true q = absurd (cc (all_true n p q k h))
    go false q = q
