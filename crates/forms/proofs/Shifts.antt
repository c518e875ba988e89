-- One bit of 16, shifted, and the way between the blank and the value of w bits that stands for it, which is 2^12 less 2^w.
use mathlib.Core.Bool.{Bool, true, false, cond}
use mathlib.Core.Path.{◌≡◌, refl, ap, ◌∙◌}
use mir.Val.{bool_byte}
use Prim.Native.Nat.{ℕ, ◌+◌, ◌-◌, ◌*◌, ◌^◌, ◌%◌, ◌≤◌, ◌<◌}
use native.Mathlib.Nat.{one-mul, mod-eq_of_lt}
use native.Mathlib.Omega.{arith}
use lib.Pow.{pow_pos, pow-lt}
use Rattle.marks.specs.Cassettes.{blank}
use Rattle.image.specs.Coding.{blank_value}
use Rattle.image.specs.Image.{wide_width}

pub one_bit : (w : ℕ) → w < 16 → 1 * 2 ^ w % 2 ^ 16 ≡ 2 ^ w
one_bit w h = ap (λ (n : ℕ). n % 2 ^ 16) (one-mul (2 ^ w)) ∙ mod-eq_of_lt (pow-lt h)

module _ (w : ℕ) (h : w ≤ wide_width) where
  bit : 1 * 2 ^ w % 2 ^ 16 ≡ 2 ^ w
  bit = one_bit w (omega arith)

  small : 2 ^ w < 2 ^ 13
  small = pow-lt {i = w} {j = 13} (omega arith)

  -- a bit shifted by 12, and by w
  abbrev pub high : Bool → ℕ
  high b = bool_byte b * 4096 % 65536

  abbrev pub power : Bool → ℕ
  power b = bool_byte b * 2 ^ w % 65536

  -- from the value to the number, and back: no step passes 16 bits, or under 0
  pub record Steps (from to : ℕ) (up down : ℕ) : Type 0 where
    pub fits : from + up < 65536
    pub above : down ≤ from + up
    pub is : from + up - down ≡ to

  pub to_number : (v : ℕ) (b : Bool) → v < 65536 → (b ≡ true → v ≡ blank_value w) → Steps v (cond b blank v) (high b) (power b)
  to_number v true k e = record {
    fits = omega (arith, e refl, small);
    above = omega (arith, e refl, bit);
    is = omega (arith, e refl, bit, pow_pos w);
  }
  to_number v false k e = record { fits = omega arith; above = omega arith; is = omega arith }

  pub to_value : (c : ℕ) (b : Bool) → c < 65536 → (b ≡ true → c ≡ blank) → Steps c (cond b (blank_value w) c) (power b) (high b)
  to_value c true k e = record {
    fits = omega (arith, e refl, bit, small);
    above = omega (arith, e refl, bit, pow_pos w);
    is = omega (arith, e refl, bit);
  }
  to_value c false k e = record { fits = omega arith; above = omega arith; is = omega arith }
