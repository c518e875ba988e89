-- The end of an image: what is left after the last field, and which number it gives.
use borrow.Author.Tests.{le-ltb, lt-ltb}
use mathlib.Core.Bool.{Bool, true, false, ◌&&◌}
use mathlib.Core.List.{List}
use mathlib.Core.Path.{◌≡◌, sym, ap, ◌∙◌}
use Prim.Native.Nat.{ℕ, ◌+◌, ◌*◌, ◌/◌, ◌≤◌, ◌<◌}
use native.Mathlib.Omega.{arith}
use lib.Dec.{ltb, eqb}
use lib.ListN.{length, drop}
use Rattle.std.specs.Option.{option_eq}
use Rattle.std.specs.Prelude.{Some, Ok, Err}
use Rattle.bits.specs.Fields.{field, bits_of, next_field}
use Rattle.bits.proofs.Places.{length_rest, field_there}
use Rattle.image.specs.Reading.{padding, finish}
use Rattle.image.specs.declared.ReadFault.{ReadFault}
use Rattle.fields.specs.Steps.{left, EndIs}

-- what is left, by its length
padding_by : (l : List Bool) (n : ℕ) → length l ≡ n → padding l ≡ (ltb n 8 && eqb (field l n) 0)
unfolding padding
padding_by l n e = rw e

module _ (s : List ℕ) (at : ℕ) where
  pub nothing_left : length s ≤ at / 8 → true ≡ padding (drop at (bits_of s))
  unfolding field
  nothing_left h = let e : length (drop at (bits_of s)) ≡ 0 = length_rest s at 0 ∙ omega arith in sym (padding_by (drop at (bits_of s)) 0 e)

  pub bytes_left : at + 8 ≤ length s * 8 → false ≡ padding (drop at (bits_of s))
  unfolding padding
  bytes_left h =
      let e : 8 ≤ length (drop at (bits_of s)) = omega (arith, length_rest s at 0) in
      simp (le-ltb (length (drop at (bits_of s))) 8 e)

  pub bits_left : (n : ℕ) → at + n ≡ length s * 8 → n < 8
      → option_eq eqb (next_field (drop at (bits_of s)) n) (Some 0) ≡ padding (drop at (bits_of s))
  bits_left n whole h =
      let e : length (drop at (bits_of s)) ≡ n = length_rest s at 0 ∙ omega arith in
      rw (← field_there s at n (omega arith))
      (sym (padding_by (drop at (bits_of s)) n e ∙ ap (λ (t : Bool). t && eqb (field (drop at (bits_of s)) n) 0) (lt-ltb n 8 h)))

-- 7, or the store
module _ (bytes : List ℕ) (at : ℕ) where
  pub not_padded : padding (left bytes at) ≡ false → EndIs bytes at (Err ReadFault.Padding)
  unfolding finish
  not_padded p = record { same = λ before s. rw p }

  pub all_read : padding (left bytes at) ≡ true → EndIs bytes at (Ok tt)
  unfolding finish
  all_read p = record { same = λ before s. rw p }
