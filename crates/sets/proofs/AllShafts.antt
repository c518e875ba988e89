-- The set of all of m shafts: the lowest m of sixteen ones.
use borrow.Author.Tests.{lt-ltb, le-ltb}
use mathlib.Core.Path.{◌≡◌, sym, ap, ◌∙◌}
use Prim.Native.Nat.{ℕ, suc, ◌+◌, ◌-◌, ◌/◌, ◌%◌, ◌^◌, ◌≤◌}
use native.Mathlib.Decide.{dec_lt}
use native.Mathlib.Omega.{arith}
use lib.Dec.{eqb}
use lib.Pow.{shr-shr, ones_lt, ones_split, high, low}
use Rattle.lifts.specs.Lifting.{most_shafts}
use Rattle.sets.specs.Sets.{has, AllOf}
use Rattle.sets.proofs.SetLaws.{none_past}

-- each of some ones is a one
one_bit : (j y : ℕ) → (2 ^ (suc j + y) - 1) / 2 ^ y % 2 ≡ 1
one_bit j y =
    ap (λ (n : ℕ). n / 2 ^ y % 2) (ones_split (suc j) y) ∙ ap (λ (n : ℕ). n % 2) (high (2 ^ suc j - 1) y (ones_lt y))
    ∙ ap (λ (n : ℕ). (2 ^ n - 1) % 2) (omega arith) ∙ ap (λ (n : ℕ). n % 2) (ones_split j 1) ∙ low (2 ^ j - 1) 1 (omega arith)

pub ones_all : (m : ℕ) → m ≤ most_shafts → AllOf m (65535 / 2 ^ (16 - m))
unfolding has
ones_all m h x =
    elim (dec_lt x m) [
      | yes l ↦
          let y = 16 - m + x in
          let j = 15 - y in
          let e : suc j + y ≡ 16 = omega arith in
          let bit : 65535 / 2 ^ y % 2 ≡ 1 = ap (λ (n : ℕ). (2 ^ n - 1) / 2 ^ y % 2) (sym e) ∙ one_bit j y in
          ap (λ (n : ℕ). eqb (n % 2) 1) (shr-shr 65535 (16 - m) x) ∙ ap (λ (n : ℕ). eqb n 1) bit ∙ sym (lt-ltb x m l)
      | no l ↦ ap (λ (n : ℕ). eqb (n % 2) 1) (shr-shr 65535 (16 - m) x) ∙ none_past 65535 (16 - m + x) (omega arith) (omega arith) ∙ sym (le-ltb x m (omega arith))
    ]
