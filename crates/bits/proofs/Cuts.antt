-- Fields cut out of a number: the number that several fields make together, the bits of it that are one field, and the shifts that take them out; for every width and every count of fields.
use mathlib.Core.Bool.{Bool, false}
use mathlib.Core.List.{List, [], ◌∷◌}
use mathlib.Core.Path.{◌≡◌, refl, sym, ap, ◌∙◌}
use Prim.Native.Nat.{ℕ, zero, suc, ◌+◌, ◌-◌, ◌*◌, ◌/◌, ◌%◌, ◌^◌, ◌≤◌, ◌<◌}
use native.Mathlib.Nat.{pow-suc, add-zero, add-suc, suc-mul, zero-mul, mul_assoc}
use native.Mathlib.Omega.{arith}
use lib.ListN.{length, get_or, drop}
use lib.Pow.{shl-shr, shr-shr, high, low, field as field-pow}
use lib.Seq.{drop-nil, drop-drop, drop-append-add, get_or-drop}
use Rattle.bits.specs.Fields.{bits, field, packed, bits_of}
use Rattle.bits.proofs.Widths.{length_bits, field_bits, field_lt}

-- the first k bits, and then w bits more
pub field_add : (l : List Bool) (k w : ℕ) → field l (k + w) ≡ field l k * 2 ^ w + field (drop k l) w
unfolding field
field_add l k zero = rw (add-zero k) (omega arith)
field_add l k (suc w) =
    rw (add-suc k w, field_add l k w, get_or-drop k l w false, pow-suc 2 w) (omega (arith, mul_assoc (field l k) (2 ^ w) 2))

-- of the number that the first bits of a list are, w bits from bit k on
pub field_cut : (l : List Bool) (k w rest : ℕ) → field l (k + w + rest) / 2 ^ rest % 2 ^ w ≡ field (drop k l) w
field_cut l k w rest =
    rw (field_add l (k + w) rest, high (field l (k + w)) rest (field_lt (drop (k + w) l) rest), field_add l k w)
    (low (field l k) w (field_lt (drop k l) w))

-- the number that the first n of several fields of w bits make
abbrev pub joined : ℕ → List ℕ → ℕ → ℕ
joined w vs zero = 0
joined w vs (suc n) = joined w vs n * 2 ^ w + get_or vs n 0

pub drop_packed : (w n : ℕ) (vs : List ℕ) → drop (n * w) (packed w vs) ≡ packed w (drop n vs)
unfolding packed
drop_packed w zero vs = rw (zero-mul w)
drop_packed w (suc n) [] = drop-nil (suc n * w)
drop_packed w (suc n) (v ∷ vs) =
    let e : suc n * w ≡ length (bits w v) + n * w = omega (arith, suc-mul n w, length_bits w v) in
    rw e (drop-append-add (bits w v) (packed w vs) (n * w) ∙ drop_packed w n vs)

field_none : (w : ℕ) → field [] w ≡ 0
unfolding field
field_none zero = refl
field_none (suc w) = rw (field_none w)

field_head : (w : ℕ) (vs : List ℕ) → get_or vs 0 0 < 2 ^ w → field (packed w vs) w ≡ get_or vs 0 0
unfolding packed
field_head w [] h = field_none w
field_head w (v ∷ vs) h = field_bits w v (packed w vs) h

head_drop : (n : ℕ) (vs : List ℕ) → get_or (drop n vs) 0 0 ≡ get_or vs n 0
head_drop n vs = get_or-drop n vs 0 0 ∙ ap (λ (i : ℕ). get_or vs i 0) (add-zero n)

pub field_joined : (w : ℕ) (vs : List ℕ) (n : ℕ) → ((i : ℕ) → get_or vs i 0 < 2 ^ w) → field (packed w vs) (n * w) ≡ joined w vs n
unfolding field
field_joined w vs zero h = rw (zero-mul w)
field_joined w vs (suc n) h =
    let e : suc n * w ≡ n * w + w = omega (arith, suc-mul n w) in
    let f : field (packed w (drop n vs)) w ≡ get_or vs n 0 = field_head w (drop n vs) (rw (head_drop n vs) (h n)) ∙ head_drop n vs in
    rw (e, field_add (packed w vs) (n * w) w, field_joined w vs n h, drop_packed w n vs, f)

-- the 24 bits from byte i on, out of three bytes
three_joined : (s : List ℕ) (i v : ℕ) → ((j : ℕ) → get_or s j 0 < 256) → v ≡ (get_or s i 0 * 256 + get_or s (i + 1) 0) * 256 + get_or s (i + 2) 0
    → v ≡ field (drop (i * 8) (bits_of s)) 24
unfolding bits_of
three_joined s i v h e =
    let k = field_joined 8 (drop i s) 3 (λ j. rw (get_or-drop i s j 0) (h (i + j))) in
    rw (drop_packed 8 i s) (omega (arith, k, head_drop i s, get_or-drop i s 1 0, get_or-drop i s 2 0))

-- bits shifted out to the left, and then to the right
shifted : (v k j w : ℕ) → v * 2 ^ k % 2 ^ (w + (k + j)) / 2 ^ (k + j) ≡ v / 2 ^ j % 2 ^ w
shifted v k j w = field-pow (v * 2 ^ k) w (k + j) ∙ ap (λ (x : ℕ). x % 2 ^ w) (sym (shr-shr (v * 2 ^ k) k j) ∙ ap (λ (x : ℕ). x / 2 ^ j) (shl-shr v k))

-- w bits from bit k on of 24, by the two shifts of a number of 32 bits
field_shifted : (l : List Bool) (k w : ℕ) → k + w ≤ 24 → field l 24 * 2 ^ (8 + k) % 2 ^ 32 / 2 ^ (32 - w) ≡ field (drop k l) w
field_shifted l k w h =
    let e : 8 + k + (24 - k - w) ≡ 32 - w = omega arith in
    let f : w + (32 - w) ≡ 32 = omega arith in
    let g : k + w + (24 - k - w) ≡ 24 = omega arith in
    (rw (e, f) at (shifted (field l 24) (8 + k) (24 - k - w) w)) ∙ (rw g at (field_cut l k w (24 - k - w)))

-- a field, out of the three bytes from its first one on
pub field_in_bytes : (s : List ℕ) (at w v : ℕ) → ((j : ℕ) → get_or s j 0 < 256) → w ≤ 16
    → v ≡ (get_or s (at / 8) 0 * 256 + get_or s (at / 8 + 1) 0) * 256 + get_or s (at / 8 + 2) 0
    → v * 2 ^ (8 + at % 8) % 2 ^ 32 / 2 ^ (32 - w) ≡ field (drop at (bits_of s)) w
field_in_bytes s at w v h k e =
    let f : at / 8 * 8 + at % 8 ≡ at = omega arith in
    ap (λ (n : ℕ). n * 2 ^ (8 + at % 8) % 2 ^ 32 / 2 ^ (32 - w)) (three_joined s (at / 8) v h e)
    ∙ field_shifted (drop (at / 8 * 8) (bits_of s)) (at % 8) w (omega arith)
    ∙ ap (λ (l : List Bool). field l w) (drop-drop (at % 8) (at / 8 * 8) (bits_of s) ∙ ap (λ (n : ℕ). drop n (bits_of s)) f)
