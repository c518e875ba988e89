-- Fields at a bit position of a list of bytes: where they end, and what one that is there says of the bits.
use borrow.Author.Tests.{le-leb, lt-leb, leb-true}
use mathlib.Core.Bool.{Bool, true, false, cond}
use mathlib.Core.List.{List, ◌++◌}
use mathlib.Core.Path.{◌≡◌, refl, sym, ap, ◌∙◌}
use Prim.Native.Nat.{ℕ, ◌+◌, ◌-◌, ◌*◌, ◌^◌, ◌≤◌, ◌<◌}
use native.Mathlib.Omega.{arith}
use lib.Dec.{leb}
use lib.ListN.{length, drop, length-append, length-drop, take-append-drop}
use Rattle.std.specs.Prelude.{Option, Some, None}
use Rattle.bits.specs.Fields.{bits, field, bits_of, next_field}
use Rattle.bits.proofs.Widths.{length_bits, field_bits, bits_field, length_packed}

module _ (s : List ℕ) (at w : ℕ) where
  pub length_rest : length (drop at (bits_of s)) ≡ length s * 8 - at
  unfolding bits_of
  length_rest = length-drop at (bits_of s) ∙ ap (λ (n : ℕ). n - at) (length_packed 8 s)

  pub field_missing : 0 < w → length s * 8 < at + w → None ≡ next_field (drop at (bits_of s)) w
  unfolding next_field
  field_missing h k = let m : length (drop at (bits_of s)) < w = rw length_rest (omega arith) in simp (lt-leb w (length (drop at (bits_of s))) m)

  pub field_there : at + w ≤ length s * 8 → Some (field (drop at (bits_of s)) w) ≡ next_field (drop at (bits_of s)) w
  unfolding next_field
  field_there h = let m : w ≤ length (drop at (bits_of s)) = rw length_rest (omega arith) in simp (le-leb w (length (drop at (bits_of s))) m)

-- a field that was written comes first
pub field_first : (w v : ℕ) (r : List Bool) → v < 2 ^ w → next_field (bits w v ++ r) w ≡ Some v
unfolding next_field
field_first w v r h =
    let k : w ≤ length (bits w v ++ r) = simp (length-append, length_bits w v) (omega arith) in
    simp (le-leb w (length (bits w v ++ r)) k, field_bits w v r h)

-- a field that is there: the list begins with its bits
pub record There (l : List Bool) (w v : ℕ) : Type 0 where
  pub long : w ≤ length l
  pub value : v ≡ field l w
  pub begins : l ≡ bits w v ++ drop w l

pub there : (l : List Bool) (w v : ℕ) → next_field l w ≡ Some v → There l w v
unfolding next_field
there l w v e = go (leb w (length l)) refl e
  where
    go : (t : Bool) → leb w (length l) ≡ t → cond t (Some (field l w)) None ≡ Some v → There l w v
    go true k q =
        let f : v ≡ field l w = cc in
        record {
          long = leb-true w (length l) k;
          value = f;
          begins =
              sym (ap (λ (n : ℕ). bits w n ++ drop w l) f ∙ ap (λ (b : List Bool). b ++ drop w l) (bits_field w l (leb-true w (length l) k)) ∙ take-append-drop w l);
        }
    go false k q = absurd (let z : ◌≡◌ {A = ℕ} 0 1 = cc in omega arith)

-- a field is there or it is missing
pub data Found (l : List Bool) (w : ℕ) : Type 0 where
  found : (v : ℕ) → next_field l w ≡ Some v → Found l w
  lost : next_field l w ≡ None → Found l w

pub look : (l : List Bool) (w : ℕ) → Found l w
look l w = go (next_field l w) refl
  where
    go : (f : Option ℕ) → next_field l w ≡ f → Found l w
    go (Some v) e = found v e
    go None e = lost e
