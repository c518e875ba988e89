-- Laws of `written`: nothing, one list after another, one byte, and that the length stays.
use mathlib.Core.List.{List, [], ◌∷◌, ◌++◌, append_assoc}
use mathlib.Core.Path.{◌≡◌, sym, ap, ap₂, ◌∙◌}
use Prim.Native.Nat.{ℕ, ◌+◌, ◌≤◌, ◌<◌}
use native.Mathlib.Numerals.{add-one}
use native.Mathlib.Nat.{add-zero, add_assoc}
use native.Mathlib.Omega.{arith}
use lib.ListN.{length, take, drop, set, length-append, length-take, length-drop, take-append-drop}
use lib.Seq.{take_at, drop-append-add, drop-drop, set_split}
use Rattle.moves.specs.Written.{written}

pub written_nothing : (came : List ℕ) (at : ℕ) → written came at [] ≡ came
unfolding written
written_nothing came at = rw (add-zero, take-append-drop)

pub length_written : (came : List ℕ) (at : ℕ) (l : List ℕ) → at + length l ≤ length came → length (written came at l) ≡ length came
unfolding written
length_written came at l h = simp (length-append, length-take, length-drop) (omega arith)

-- what stands before the end of a list just written, its length, and what stands after it
length_before : (came : List ℕ) (at : ℕ) (k : List ℕ) → at ≤ length came → length (take at came ++ k) ≡ at + length k
length_before came at k h = simp (length-append, length-take) (omega arith)

take_written : (came : List ℕ) (at : ℕ) (k : List ℕ) → at ≤ length came → take (at + length k) (written came at k) ≡ take at came ++ k
unfolding written
take_written came at k h = rw (← append_assoc) (take_at (take at came ++ k) (drop (at + length k) came) (at + length k) (length_before came at k h))

drop_written : (came : List ℕ) (at : ℕ) (k : List ℕ) (n : ℕ) → at ≤ length came → drop (at + length k + n) (written came at k) ≡ drop (at + length k + n) came
unfolding written
drop_written came at k n h =
    rw (← append_assoc)
    (ap (λ (x : ℕ). drop (x + n) (take at came ++ k ++ drop (at + length k) came)) (sym (length_before came at k h))
    ∙ drop-append-add (take at came ++ k) (drop (at + length k) came) n
    ∙ drop-drop n (at + length k) came)

pub written_then : (came : List ℕ) (at : ℕ) (k l : List ℕ) → at + length k + length l ≤ length came
    → written (written came at k) (at + length k) l ≡ written came at (k ++ l)
unfolding written
written_then came at k l h =
    ap₂ (λ (x y : List ℕ). x ++ (l ++ y)) (take_written came at k (omega arith)) (drop_written came at k (length l) (omega arith))
    ∙ simp (append_assoc, length-append, add_assoc)

-- the same of the bytes that two writings left, the second from the first one's end
pub followed : (came : List ℕ) (at : ℕ) (k l : List ℕ) {mid out : List ℕ} {at' : ℕ} → mid ≡ written came at k → at' ≡ at + length k
    → out ≡ written mid at' l → at' + length l ≤ length came → out ≡ written came at (k ++ l)
followed came at k l e n f h =
    f ∙ ap₂ (λ (c : List ℕ) (x : ℕ). written c x l) e n ∙ written_then came at k l (omega arith)

-- a byte set is a list of one byte written
pub set_written : (came : List ℕ) (at b : ℕ) → at < length came → set came at b ≡ written came at (b ∷ [])
unfolding written
set_written came at b h = rw add-one (set_split came at b h)
