-- Laws of the pen: whole bytes that it stores, a field pushed, nothing, and one push after another.
use mathlib.Core.Bool.{Bool}
use mathlib.Core.List.{List, [], ◌∷◌, ◌++◌, append_assoc, append-nil}
use mathlib.Core.Path.{◌≡◌, refl, sym, ap, ap₂, ◌∙◌, subst}
use Prim.Native.Nat.{ℕ, ◌+◌, ◌-◌, ◌*◌, ◌/◌, ◌%◌, ◌^◌, ◌≤◌, ◌<◌}
use native.Mathlib.Decide.{dec_lt}
use native.Mathlib.Nat.{not-suc-le-zero, mod-lt, div-one}
use native.Mathlib.Numerals.{add-one}
use native.Mathlib.Omega.{arith}
use lib.ListN.{length, get_or, take, drop, set, length-append, length-set, get_or-eq_default}
use lib.Pow.{pow_pos, high, low}
use lib.Seq.{length-take-le, get_or-take, take-suc-set, drop-set-lt, drop-drop, get_or-set_same, get_or-set_other}
use Rattle.pens.specs.declared.Pen.{Pen}
use Rattle.bits.specs.Fields.{bits, packed, bits_of, bytes_of}
use Rattle.pens.specs.Pens.{no_bits, Holds, Pushes}
use Rattle.bits.proofs.Bytes.{bytes_back}
use Rattle.bits.proofs.Widths.{length_bits, bits_low, bits_add, packed_append}

pub pushes_none : (out : List ℕ) (p : Pen) → p.full < 8 → Pushes [] out out p p
pushes_none out p h = record { holds = λ before l k. rw append-nil k; count = omega arith; full = h; same_length = refl }

pub pushes_then : {a b : List Bool} {o₁ o₂ o₃ : List ℕ} {p q r : Pen} → Pushes a o₁ o₂ p q → Pushes b o₂ o₃ q r → Pushes (a ++ b) o₁ o₃ p r
pushes_then {a} {b} x y = record {
  holds = λ before l k. rw append_assoc at (y.holds before (l ++ a) (x.holds before l k));
  count = simp length-append (omega (arith, x.count, y.count));
  full = y.full;
  same_length = y.same_length ∙ x.same_length;
}

-- Whole bytes go from the pen, which may hold more than one here, to the slice: the same bits are pushed.
pub record Stores (out next : List ℕ) (p q : Pen) : Type 0 where
  pub holds : (before : List ℕ) (l : List Bool) → Holds before out p l → Holds before next q l
  pub count : 8 * q.at + q.full ≡ 8 * p.at + p.full
  pub same_length : length next ≡ length out

pub stores_none : (out : List ℕ) (p : Pen) → Stores out out p p
stores_none out p = record { holds = λ before l k. k; count = refl; same_length = refl }

byte_first : (x n : ℕ) → 8 ≤ n → bits 8 (x / 2 ^ (n - 8) % 256) ++ bits (n - 8) x ≡ bits n x
byte_first x n h =
    let e : 8 + (n - 8) ≡ n = omega arith in
    rw (bits_low 8 8 (x / 2 ^ (n - 8)) (omega arith), sym (bits_add 8 (n - 8) x), e)

-- the byte b stands first in the pen
module _ (out : List ℕ) (at x full b : ℕ) (h : 8 ≤ full) (i : at < length out) (first : b ≡ x / 2 ^ (full - 8) % 256) where
  holds_more : (before : List ℕ) (l : List Bool) → Holds before out (record { at = at; part = x; full = full }) l
      → Holds before (set out at b) (record { at = at + 1; part = x; full = full - 8 }) l
  unfolding bits_of packed
  holds_more before l k = record {
    pushed =
        ap (λ (bs : List ℕ). bits_of bs ++ bits (full - 8) x) (ap (λ (n : ℕ). take n (set out at b)) (add-one at) ∙ take-suc-set out at b i)
        ∙ ap (λ (m : List Bool). m ++ bits (full - 8) x)
        (packed_append 8 (take at out) (b ∷ []) ∙ ap (λ (m : List Bool). bits_of (take at out) ++ m) (append-nil (bits 8 b)))
        ∙ append_assoc (bits_of (take at out)) (bits 8 b) (bits (full - 8) x)
        ∙ ap (λ (m : List Bool). bits_of (take at out) ++ m) (ap (λ (n : ℕ). bits 8 n ++ bits (full - 8) x) first ∙ byte_first x full h)
        ∙ k.pushed;
    stored = λ j g. elim (dec_lt j at) [
      | yes u ↦ subst (λ (n : ℕ). n < 256) (sym (get_or-set_other out at j b 0 (omega arith))) (k.stored j u)
      | no u ↦ (let e : j ≡ at = omega arith in rw (e, get_or-set_same out at b 0 i) (omega arith))
    ];
    kept = drop-set-lt (at + 1) out at b (omega arith) ∙ sym (drop-drop 1 at out) ∙ ap (drop 1) k.kept ∙ drop-drop 1 at before;
    same_length = length-set out at b ∙ k.same_length;
  }

  pub stores_byte : {o : List ℕ} {p : Pen} → Stores o out p (record { at = at; part = x; full = full }) → Stores o (set out at b) p (record { at = at + 1; part = x; full = full - 8 })
  stores_byte k = record {
    holds = λ before l a. holds_more before l (k.holds before l a);
    count = omega (arith, k.count);
    same_length = length-set out at b ∙ k.same_length;
  }

-- other bits in the pen
other_bits : {before out : List ℕ} {l : List Bool} (p : Pen) (x n : ℕ) (m : List Bool) → bits n x ≡ bits p.full p.part ++ m
    → Holds before out p l → Holds before out (record { at = p.at; part = x; full = n }) (l ++ m)
other_bits {before} {out} p x n m e a = record {
  pushed =
      ap (λ (b : List Bool). bits_of (take p.at out) ++ b) e
      ∙ sym (append_assoc (bits_of (take p.at out)) (bits p.full p.part) m) ∙ ap (λ (b : List Bool). b ++ m) a.pushed;
  stored = a.stored;
  kept = a.kept;
  same_length = a.same_length;
}

-- a field of w bits put after the pen's own is pushed, once its whole bytes are stored and the low byte is kept
pub pushes_stored : (out next : List ℕ) (p : Pen) (v w x at part full : ℕ) → x ≡ p.part * 2 ^ w + v % 2 ^ w → part ≡ x / 2 ^ 0 % 256 → full < 8
    → Stores out next (record { at = p.at; part = x; full = p.full + w }) (record { at = at; part = x; full = full })
    → Pushes (bits w v) out next p (record { at = at; part = part; full = full })
pushes_stored out next p v w x at part full e f h k = record {
  holds = λ before l a. rw append-nil at (other_bits _ part full [] kept (k.holds before (l ++ bits w v) (other_bits p x (p.full + w) (bits w v) joined a)));
  count = omega (arith, k.count, length_bits w v);
  full = h;
  same_length = k.same_length;
}
  where
    joined : bits (p.full + w) x ≡ bits p.full p.part ++ bits w v
    joined =
        let m : x / 2 ^ w ≡ p.part = rw e (high p.part w (mod-lt v (pow_pos w))) in
        let r : x % 2 ^ w ≡ v % 2 ^ w = rw e (low p.part w (mod-lt v (pow_pos w))) in
        bits_add p.full w x ∙ ap₂ (λ (i : ℕ) (b : List Bool). bits p.full i ++ b) m (sym (bits_low w w x (omega arith)) ∙ ap (bits w) r ∙ bits_low w w v (omega arith))

    kept : bits full part ≡ bits full x ++ []
    kept = rw (f, div-one x, append-nil) (bits_low full 8 x (omega arith))

pub holds_none : (out : List ℕ) → Holds out out no_bits []
unfolding bits_of packed bits
holds_none out = record { pushed = refl; stored = λ i h. absurd (not-suc-le-zero h); kept = refl; same_length = refl }

-- a pen whose last byte is whole has stored the bytes of what it pushed
pub stored_bytes : (before out : List ℕ) (p : Pen) (l : List Bool) → Holds before out p l → p.full ≡ 0 → p.at ≤ length out → take p.at out ≡ bytes_of p.at l
unfolding bits
stored_bytes before out p l h e k =
    let n : length (take p.at out) ≡ p.at = length-take-le p.at out k in
    let f : bits_of (take p.at out) ≡ l =
    sym (append-nil (bits_of (take p.at out))) ∙ ap (λ (w : ℕ). bits_of (take p.at out) ++ bits w p.part) (sym e) ∙ h.pushed in
    sym (bytes_back (take p.at out) small) ∙ ap (λ (w : ℕ). bytes_of w (bits_of (take p.at out))) n ∙ ap (bytes_of p.at) f
  where
    small : (i : ℕ) → get_or (take p.at out) i 0 < 256
    small i =
        elim (dec_lt i p.at) [
          | yes a ↦ rw (get_or-take p.at out i 0 a) (h.stored i a)
          | no a ↦ (let z : get_or (take p.at out) i 0 ≡ 0 = get_or-eq_default (take p.at out) 0 (omega (arith, length-take-le p.at out k)) in omega arith)
        ]
