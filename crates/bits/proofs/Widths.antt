-- Laws of packed fields, shown once for every width and position (document 01, "Agreement on the contracts": "Facts on fields are shown once for all field widths").
use borrow.Author.Tests.{eq-eqb, ne_eqb, eqb-true, eqb-false}
use mathlib.Core.Bool.{Bool, true, false}
use mathlib.Core.List.{List, [], ◌∷◌, ◌++◌, append_assoc, append-nil}
use mathlib.Core.Path.{◌≡◌, refl, sym, ap, ◌∙◌, subst}
use Prim.Native.Nat.{ℕ, zero, suc, ◌+◌, ◌*◌, ◌/◌, ◌%◌, ◌^◌, ◌≤◌, ◌<◌}
use native.Mathlib.Nat.{pow-suc, mod-lt, add-zero, add-suc, div-one, suc-mul, not-suc-le-zero, zero-lt-suc}
use native.Mathlib.Numerals.{add-one, one-add}
use native.Mathlib.Omega.{arith}
use lib.ListN.{length, get_or, take, length-append}
use lib.Pow.{shr-shr, field as field-pow, mod-mod-pow}
use lib.Seq.{take-suc, get_or_at}
use Rattle.bits.specs.Fields.{digit, odd, bits, field, packed}

pub digit_lt : (b : Bool) → digit b < 2
digit_lt false = omega arith
digit_lt true = omega arith

-- a number with one bit more at its end
pub half : (x : ℕ) (b : Bool) → (x * 2 + digit b) / 2 ≡ x
half x false = omega arith
half x true = omega arith

pub lowest : (x : ℕ) (b : Bool) → odd (x * 2 + digit b) ≡ b
lowest x false = let n : (x * 2 + 0) % 2 ≡ 1 → ⊥ = λ e. omega arith in ne_eqb _ _ n
lowest x true = let e : (x * 2 + 1) % 2 ≡ 1 = omega arith in eq-eqb _ _ e

pub digit_odd : (v : ℕ) → digit (odd v) ≡ v % 2
digit_odd v = go (odd v) refl
  where
    go : (b : Bool) → odd v ≡ b → digit b ≡ v % 2
    go true e = sym (eqb-true (v % 2) 1 e)
    go false e = let n : v % 2 ≡ 1 → ⊥ = eqb-false (v % 2) 1 e in omega (arith, mod-lt v (zero-lt-suc 1))

pub length_bits : (w v : ℕ) → length (bits w v) ≡ w
unfolding bits
length_bits zero v = refl
length_bits (suc w) v = simp (length-append, length_bits w (v / 2), add-one)

-- a field, read and written, is its bits
pub bits_field : (w : ℕ) (l : List Bool) → w ≤ length l → bits w (field l w) ≡ take w l
unfolding bits field
bits_field zero l h = refl
bits_field (suc w) l h =
    rw (half (field l w) (get_or l w false), lowest (field l w) (get_or l w false), bits_field w l (omega arith), take-suc l w false h)

-- a number that fits, written and read, is that number
pub field_bits : (w v : ℕ) (r : List Bool) → v < 2 ^ w → field (bits w v ++ r) w ≡ v
unfolding bits field
field_bits zero v r h = let e : 2 ^ 0 ≡ 1 = refl in omega arith
field_bits (suc w) v r h =
    let k : v / 2 < 2 ^ w = omega (arith, pow-suc 2 w) in
    let e : bits (suc w) v ++ r ≡ bits w (v / 2) ++ (odd v ∷ r) = append_assoc (bits w (v / 2)) (odd v ∷ []) r in
    subst (λ (l : List Bool). field l (suc w) ≡ v) (sym e)
    (rw (field_bits w (v / 2) (odd v ∷ r) k, get_or_at (bits w (v / 2)) (odd v) r false w (length_bits w (v / 2)), digit_odd v) (omega arith))

pub field_lt : (l : List Bool) (w : ℕ) → field l w < 2 ^ w
unfolding field
field_lt l zero = let e : 2 ^ 0 ≡ 1 = refl in omega arith
field_lt l (suc w) = omega (arith, field_lt l w, pow-suc 2 w, digit_lt (get_or l w false))

-- only the w low bits of a number count
pub bits_low : (w k v : ℕ) → w ≤ k → bits w (v % 2 ^ k) ≡ bits w v
unfolding bits
bits_low zero k v h = refl
bits_low (suc w) zero v h = absurd (not-suc-le-zero h)
bits_low (suc w) (suc k) v h =
    let e : suc k ≡ k + 1 = omega arith in
    let p : v % 2 ^ suc k / 2 ≡ v / 2 % 2 ^ k = ap (λ (j : ℕ). v % 2 ^ j / 2) e ∙ field-pow v k 1 in
    let q : v % 2 ^ suc k % 2 ≡ v % 2 = ap (λ (j : ℕ). v % 2 ^ j % 2) e ∙ mod-mod-pow v k 1 in
    rw (p, q, bits_low w k (v / 2) (omega arith))

-- the bits of a number are those above its w low ones, and then these
pub bits_add : (n w v : ℕ) → bits (n + w) v ≡ bits n (v / 2 ^ w) ++ bits w v
unfolding bits
bits_add n zero v = simp (add-zero, div-one, append-nil)
bits_add n (suc w) v =
    let e : v / 2 / 2 ^ w ≡ v / 2 ^ suc w = shr-shr v 1 w ∙ ap (λ (j : ℕ). v / 2 ^ j) (one-add w) in
    rw (add-suc n w, bits_add n w (v / 2), e) (append_assoc (bits n (v / 2 ^ suc w)) (bits w (v / 2)) (odd v ∷ []))

pub length_packed : (w : ℕ) (vs : List ℕ) → length (packed w vs) ≡ length vs * w
unfolding packed
length_packed w [] = omega arith
length_packed w (v ∷ vs) = simp (length-append, length_bits w v, length_packed w vs) (omega (arith, suc-mul (length vs) w))

pub packed_append : (w : ℕ) (us vs : List ℕ) → packed w (us ++ vs) ≡ packed w us ++ packed w vs
unfolding packed
packed_append w [] vs = refl
packed_append w (u ∷ us) vs = ap (λ (l : List Bool). bits w u ++ l) (packed_append w us vs) ∙ sym (append_assoc (bits w u) (packed w us) (packed w vs))
