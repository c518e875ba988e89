-- Bytes as bits and back, and bytes written out of bits: the last one ends in zero bits (document 01, "The image": "then zero bits to the end of the byte").
use mathlib.Core.Bool.{Bool, false}
use mathlib.Core.List.{List, [], ◌∷◌, ◌++◌, append_assoc, append-nil}
use mathlib.Core.Path.{◌≡◌, refl, sym, ap, ap₂, ◌∙◌}
use Prim.Native.Nat.{ℕ, zero, suc, ◌+◌, ◌*◌, ◌≤◌, ◌<◌}
use native.Mathlib.Nat.{suc-mul}
use native.Mathlib.Omega.{arith}
use lib.ListN.{length, get_or, take, drop, length-append, length-drop}
use lib.Seq.{take_all, drop_at, get_or-drop, take-add}
use Rattle.bits.specs.Fields.{bits, field, packed, bits_of, bytes_of, byte_count}
use Rattle.bits.proofs.Widths.{length_bits, field_bits, bits_field}

-- fields and bytes look at the bits alone, one by one, and past the end at zeros
pub field_agrees : (l k : List Bool) (w : ℕ) → ((i : ℕ) → get_or l i false ≡ get_or k i false) → field l w ≡ field k w
unfolding field
field_agrees l k zero h = refl
field_agrees l k (suc w) h = rw (field_agrees l k w h, h w)

pub bytes_agree : (n : ℕ) (l k : List Bool) → ((i : ℕ) → get_or l i false ≡ get_or k i false) → bytes_of n l ≡ bytes_of n k
unfolding bytes_of
bytes_agree zero l k h = refl
bytes_agree (suc n) l k h =
    ap₂ (λ (b : ℕ) (bs : List ℕ). b ∷ bs) (field_agrees l k 8 h)
    (bytes_agree n (drop 8 l) (drop 8 k) (λ i. get_or-drop 8 l i false ∙ h (8 + i) ∙ sym (get_or-drop 8 k i false)))

-- zero bits at the end change nothing
zero_agrees : (l : List Bool) (i : ℕ) → get_or (l ++ (false ∷ [])) i false ≡ get_or l i false
zero_agrees [] zero = refl
zero_agrees [] (suc i) = refl
zero_agrees (b ∷ l) zero = refl
zero_agrees (b ∷ l) (suc i) = zero_agrees l i

pub padded_agrees : (l : List Bool) (w i : ℕ) → get_or (l ++ bits w 0) i false ≡ get_or l i false
unfolding bits
padded_agrees l zero i = rw append-nil
padded_agrees l (suc w) i =
    ap (λ (k : List Bool). get_or k i false) (sym (append_assoc l (bits w 0) (false ∷ [])))
    ∙ zero_agrees (l ++ bits w 0) i ∙ padded_agrees l w i

-- bytes, as bits and back
pub bytes_back : (bs : List ℕ) → ((i : ℕ) → get_or bs i 0 < 256) → bytes_of (length bs) (bits_of bs) ≡ bs
unfolding bytes_of bits_of packed
bytes_back [] h = refl
bytes_back (b ∷ bs) h =
    ap₂ (λ (c : ℕ) (cs : List ℕ). c ∷ cs) (field_bits 8 b (packed 8 bs) (h 0))
    (ap (bytes_of (length bs)) (drop_at (bits 8 b) (packed 8 bs) 8 (length_bits 8 b)) ∙ bytes_back bs (λ i. h (suc i)))

-- bits, as bytes and back
pub bits_back : (n : ℕ) (l : List Bool) → n * 8 ≤ length l → bits_of (bytes_of n l) ≡ take (n * 8) l
unfolding bytes_of bits_of packed
bits_back zero l h = refl
bits_back (suc n) l h =
    let e : suc n * 8 ≡ 8 + n * 8 = omega (arith, suc-mul n 8) in
    ap₂ (λ (a b : List Bool). a ++ b) (bits_field 8 l (omega arith)) (bits_back n (drop 8 l) (simp length-drop (omega arith)))
    ∙ sym (ap (λ (k : ℕ). take k l) e ∙ take-add 8 (n * 8) l)

-- bits written out as bytes and read as bits: the same, with zero bits to the end of the byte
pub padded : (l : List Bool) (k : ℕ) → k + length l ≡ byte_count (length l) * 8 → bits_of (bytes_of (byte_count (length l)) l) ≡ l ++ bits k 0
padded l k e =
    let n = byte_count (length l) in
    let h : length (l ++ bits k 0) ≡ n * 8 = simp (length-append, length_bits k 0) (omega arith) in
    ap bits_of (bytes_agree n l (l ++ bits k 0) (λ i. sym (padded_agrees l k i)))
    ∙ bits_back n (l ++ bits k 0) (omega arith)
    ∙ take_all (n * 8) (l ++ bits k 0) (omega arith)
