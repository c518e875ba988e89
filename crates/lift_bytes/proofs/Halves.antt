-- A lift's byte: two halves of four bits, put together by shift and "or", are 16 times the one plus the other.
use mathlib.Core.Path.{◌≡◌, ap, ◌∙◌}
use Prim.Native.Nat.{ℕ, ◌+◌, ◌*◌, ◌%◌, ◌<◌}
use native.Mathlib.Nat.{mod-eq_of_lt}
use native.Mathlib.Omega.{arith}
use lib.Bits.{bit_and, bit_or, and_mask, mask_lt, or_shifted}

-- two halves of a byte put together
pub packed : (x y : ℕ) → bit_or (bit_and x 15 * 16 % 256) (bit_and y 15) ≡ 16 * (x % 16) + y % 16
packed x y =
    let hx : bit_and x 15 < 16 = mask_lt x 4 in
    let e : bit_and x 15 * 16 % 256 ≡ bit_and x 15 * 16 = mod-eq_of_lt (omega arith) in
    ap (λ (k : ℕ). bit_or k (bit_and y 15)) e
    ∙ or_shifted (bit_and x 15) 4 (bit_and y 15) (mask_lt y 4)
    ∙ omega (arith, and_mask x 4, and_mask y 4)
