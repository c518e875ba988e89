-- `mark` meets its contract: the bit that is set is 2 to the remainder by 64, and for a blank none.
use mathlib.Core.Bool.{Bool, true, false, not, cond}
use mathlib.Core.List.{List}
use mathlib.Core.Path.{◌≡◌, refl, ap, ◌∙◌}
use Prim.Native.Nat.{ℕ, ◌*◌, ◌/◌, ◌^◌, ◌%◌}
use native.Mathlib.Nat.{one-mul, mod-eq_of_lt}
use native.Mathlib.Omega.{arith}
use mir.Val.{bool_byte}
use lib.Bits.{bit_and, bit_or, and_mask, or_zero_r}
use lib.ListN.{get_or, set}
use lib.Seq.{set-get_or}
use Rattle.marks.specs.Cassettes.{is_blank}
use Rattle.marks.specs.Marking.{with_mark}
use Rattle.marks.proofs.Words.{bit_lt}
use Rattle.marks.proofs.mark.Goals as goal

-- the word with the bit of a cassette, or with none
bit-set : (w : List ℕ) (c : ℕ) (b : Bool) → set w (c / 64) (bit_or (get_or w (c / 64) 0) (bool_byte (not b) * 2 ^ (c % 64) % 2 ^ 64)) ≡ cond b w (with_mark w c)
unfolding with_mark
bit-set w c true =
    let z : 0 * 2 ^ (c % 64) % 2 ^ 64 ≡ 0 = omega arith in
    rw (z, or_zero_r) (set-get_or w (c / 64) 0)
bit-set w c false =
    let b : 1 * 2 ^ (c % 64) % 2 ^ 64 ≡ 2 ^ (c % 64) = ap (λ (n : ℕ). n % 2 ^ 64) (one-mul _) ∙ mod-eq_of_lt (bit_lt (c % 64) (omega arith)) in
    rw b refl

pub returns : goal.returns
returns c =
    let a = c.args in
    let e : bit_and a.c 63 ≡ a.c % 64 = and_mask a.c 6 in
    simp (c.word.ensures, e, c.is_blank.ensures) (bit-set a.words.now a.c (is_blank a.c))
