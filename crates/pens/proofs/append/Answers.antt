-- `append` meets its contract: a shift that loses nothing, and a mask.
use mathlib.Core.Path.{◌≡◌, ap, ap₂, ◌∙◌}
use Prim.Native.Nat.{ℕ, ◌+◌, ◌-◌, ◌*◌, ◌%◌, ◌^◌, ◌≤◌, ◌<◌}
use native.Mathlib.Nat.{one-mul, mod-lt}
use native.Mathlib.Omega.{arith}
use lib.Bits.{bit_and, bit_or, and_mask, or_shifted}
use lib.Pow.{pow_pos, shl_exact}
use Rattle.pens.proofs.append.Goals as goal

one_shifted : (w : ℕ) → w ≤ 16 → 1 * 2 ^ w % 2 ^ 32 ≡ 2 ^ w
one_shifted w h = shl_exact 1 w 32 (omega arith) (omega arith) ∙ one-mul (2 ^ w)

appended : (part v w : ℕ) → part < 256 → w ≤ 16 → bit_or (part * 2 ^ w % 2 ^ 32) (bit_and v (1 * 2 ^ w % 2 ^ 32 - 1)) ≡ part * 2 ^ w + v % 2 ^ w
appended part v w h k =
    ap₂ bit_or (shl_exact 8 w 32 h (omega arith)) (ap (λ (m : ℕ). bit_and v (m - 1)) (one_shifted w k) ∙ and_mask v w)
    ∙ or_shifted part w (v % 2 ^ w) (mod-lt v (pow_pos w))

pub overflow_sub-result : goal.overflow_sub-result
overflow_sub-result c = omega (arith, one_shifted c.args.w c.requires, pow_pos c.args.w)

pub returns : goal.returns
returns c = appended c.args.part c.args.v c.args.w (omega arith) c.requires
