-- What setting one bit of a word does to its bits and to its ones.
use mathlib.Core.Path.{◌≡◌, refl, sym, ap, ◌∙◌}
use Prim.Native.Nat.{ℕ, zero, suc, ◌+◌, ◌/◌, ◌%◌, ◌^◌, max, ◌<◌}
use native.Mathlib.Nat.{div-eq_of_lt, one-mul}
use native.Mathlib.Omega.{arith}
use lib.Bits.{bit_or, or_shr, or_step, or_zero_r}
use lib.Count.{ones, ones_step}
use lib.Pow.{pow-lt, shl-shr, shr-shr}

-- one set bit of a word
pub bit_lt : (k : ℕ) → k < 64 → 2 ^ k < 2 ^ 64
bit_lt k h = pow-lt h

-- bit k of a word
abbrev pub bit : ℕ → ℕ → ℕ
bit w k = w / 2 ^ k % 2

bit_of_or : (v w k : ℕ) → bit (bit_or v w) k ≡ max (bit v k) (bit w k)
bit_of_or v w k = ap (λ (n : ℕ). n % 2) (or_shr v w k) ∙ omega (arith, or_step (v / 2 ^ k) (w / 2 ^ k))

pub half_bits : (a k : ℕ) → a / 2 / 2 ^ k ≡ a / 2 ^ suc k
half_bits a k = shr-shr a 1 k ∙ ap (λ n. a / 2 ^ n) (omega arith)

-- a word with one bit set: that bit, and any other
power_bit_same : (k : ℕ) → bit (2 ^ k) k ≡ 1
power_bit_same k = ap (λ (n : ℕ). n % 2) (ap (λ (n : ℕ). n / 2 ^ k) (sym (one-mul (2 ^ k))) ∙ shl-shr 1 k)

power_bit_other : (j k : ℕ) → (j ≡ k → ⊥) → bit (2 ^ k) j ≡ 0
power_bit_other zero zero n = absurd (n refl)
power_bit_other zero (suc k) n = omega arith
power_bit_other (suc j) zero n = ap (λ (n : ℕ). n % 2) (div-eq_of_lt (pow-lt {i = 0} {j = suc j} (omega arith)))
power_bit_other (suc j) (suc k) n =
    let half : 2 ^ suc k / 2 ≡ 2 ^ k = omega arith in
    rw (← half_bits (2 ^ suc k) j, half) (power_bit_other j k (omega arith))

pub set_bit_same : (w k : ℕ) → bit (bit_or w (2 ^ k)) k ≡ 1
set_bit_same w k = omega (arith, bit_of_or w (2 ^ k) k, power_bit_same k)

pub set_bit_other : (w j k : ℕ) → (j ≡ k → ⊥) → bit (bit_or w (2 ^ k)) j ≡ bit w j
set_bit_other w j k n = omega (arith, bit_of_or w (2 ^ k) j, power_bit_other j k n)

-- a bit that was clear adds one to the ones
pub set_bit_ones : (w k : ℕ) → bit w k ≡ 0 → ones (bit_or w (2 ^ k)) ≡ ones w + 1
set_bit_ones w zero e =
    let high : bit_or w 1 / 2 ≡ w / 2 = or_shr w 1 1 ∙ or_zero_r (w / 2) in
    omega (arith, or_step w 1, ones_step (bit_or w 1), ones_step w, ap ones high)
set_bit_ones w (suc k) e =
    let half : 2 ^ suc k / 2 ≡ 2 ^ k = omega arith in
    let high : bit_or w (2 ^ suc k) / 2 ≡ bit_or (w / 2) (2 ^ k) = or_shr w (2 ^ suc k) 1 ∙ ap (bit_or (w / 2)) half in
    let rest = set_bit_ones (w / 2) k (rw half_bits e) in
    omega (arith, or_step w (2 ^ suc k), ones_step (bit_or w (2 ^ suc k)), ones_step w, ap ones high)
