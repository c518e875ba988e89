-- The marks are the set of the cassettes added, for any count of words: which are marked, and that their number is the number of cassettes where none
-- is added twice.
use borrow.Author.Tests.{eq-eqb, ne_eqb}
use mathlib.Core.List.{List, [], ◌∷◌, ◌++◌}
use mathlib.Core.Path.{◌≡◌, refl, ap, ◌∙◌}
use Prim.Native.Nat.{ℕ, zero, suc, ◌+◌, ◌*◌, ◌/◌, ◌%◌, ◌^◌, max, min, ◌≤◌, ◌<◌}
use native.Mathlib.Decide.{ℕ_discrete}
use native.Mathlib.Nat.{zero-div}
use native.Mathlib.Omega.{arith}
use lib.Count.{ones}
use lib.Dec.{eqb}
use lib.ListN.{length, get_or, take, set, replicate, length-set, length-replicate}
use lib.Seq.{get_or-set_same, get_or-set_other}
use Rattle.stacks.specs.Count.{count, one}
use Rattle.stacks.proofs.Counts.{Below}
use Rattle.marks.specs.Marking.{marked, with_mark, with_marks, mark_count}
use Rattle.marks.proofs.Words.{set_bit_same, set_bit_other, set_bit_ones}

pub with_more : (w l : List ℕ) (c : ℕ) → with_marks w (l ++ (c ∷ [])) ≡ with_mark (with_marks w l) c
unfolding with_marks
with_more w [] c = refl
with_more w (x ∷ l) c = with_more (with_mark w x) l c

with_mark_length : (w : List ℕ) (c : ℕ) → length (with_mark w c) ≡ length w
unfolding with_mark
with_mark_length w c = length-set w (c / 64) _

pub with_length : (w l : List ℕ) → length (with_marks w l) ≡ length w
unfolding with_marks
with_length w [] = refl
with_length w (c ∷ l) = with_length (with_mark w c) l ∙ with_mark_length w c

marked_same : (w : List ℕ) (c : ℕ) → c < 64 * length w → marked (with_mark w c) c ≡ 1
unfolding marked with_mark
marked_same w c h =
    let i : c / 64 < length w = omega arith in
    rw get_or-set_same (set_bit_same (get_or w (c / 64) 0) (c % 64))

marked_other : (w : List ℕ) (c x : ℕ) → x < 64 * length w → (x ≡ c → ⊥) → marked (with_mark w c) x ≡ marked w x
unfolding marked with_mark
marked_other w c x h d =
    elim (ℕ_discrete (x / 64) (c / 64)) [
      | yes q ↦
          let i : c / 64 < length w = omega arith in
          rw (q, get_or-set_same) (set_bit_other (get_or w (c / 64) 0) (x % 64) (c % 64) (omega arith))
      | no q ↦ rw get_or-set_other
    ]

-- adding x marks x, and changes nothing else
marked_max : (w : List ℕ) (c x : ℕ) → c < 64 * length w → marked (with_mark w x) c ≡ max (marked w c) (one (eqb c x))
unfolding marked
marked_max w c x h =
    elim (ℕ_discrete c x) [
      | yes q ↦
          let e : marked (with_mark w x) c ≡ 1 = rw (← q) (marked_same w c h) in
          omega (arith, ap one (eq-eqb c x q))
      | no q ↦ omega (arith, marked_other w x c h q, ap one (ne_eqb c x q))
    ]

-- whether a cassette is marked, 1 or 0: it was before, or stands in the list
marked_after : (w l : List ℕ) (c : ℕ) → c < 64 * length w → marked (with_marks w l) c ≡ min 1 (marked w c + count c l)
unfolding with_marks count marked
marked_after w [] c h = omega arith
marked_after w (x ∷ l) c h = omega (arith, marked_after (with_mark w x) l c (omega (arith, with_mark_length w x)), marked_max w c x h)

pub zeros : (k i : ℕ) → ◌≡◌ {A = ℕ} (get_or (replicate k 0) i 0) 0
zeros zero i = refl
zeros (suc k) zero = refl
zeros (suc k) (suc i) = zeros k i

unmarked : (k c : ℕ) → marked (replicate k 0) c ≡ 0
unfolding marked
unmarked k c = rw (zeros k (c / 64)) (ap (λ (n : ℕ). n % 2) (zero-div (2 ^ (c % 64))))

-- marks made from none: exactly the cassettes of the list
pub marked_exactly : (k : ℕ) (l : List ℕ) (c : ℕ) → c < 64 * k → marked (with_marks (replicate k 0) l) c ≡ min 1 (count c l)
marked_exactly k l c h = omega (arith, marked_after (replicate k 0) l c (omega (arith, length-replicate {A = ℕ} k 0)), unmarked k c)

-- a word set to one with one more
count_set : (w : List ℕ) (i v : ℕ) → i < length w → ones v ≡ ones (get_or w i 0) + 1 → mark_count (set w i v) ≡ mark_count w + 1
unfolding mark_count
count_set [] i v h e = absurd (omega arith)
count_set (x ∷ w) zero v h e = omega arith
count_set (x ∷ w) (suc i) v h e = omega (arith, count_set w i v (omega arith) e)

-- one mark more
mark_counts : (w : List ℕ) (c : ℕ) → c < 64 * length w → marked w c ≡ 0 → mark_count (with_mark w c) ≡ mark_count w + 1
unfolding marked with_mark
mark_counts w c h e = count_set w (c / 64) _ (omega arith) (set_bit_ones (get_or w (c / 64) 0) (c % 64) e)

-- one mark more for each cassette, where none is marked before and none stands twice
counts_all : (n : ℕ) (w l : List ℕ) → n ≤ 64 * length w → Below n l → ((c : ℕ) → c < n → marked w c + count c l ≤ 1) → mark_count (with_marks w l) ≡ mark_count w + length l
unfolding with_marks count
counts_all n w [] k b h = omega arith
counts_all n w (c ∷ l) k b h =
    let here : one (eqb c c) ≡ 1 = ap one (eq-eqb c c refl) in
    let below : c < n = b c (omega arith) in
    let marks : mark_count (with_mark w c) ≡ mark_count w + 1 = mark_counts w c (omega arith) (omega (arith, h c below)) in
    counts_all n (with_mark w c) l (omega (arith, with_mark_length w c)) (λ x p. b x (omega arith)) (λ x p. omega (arith, h x p, marked_max w x c (omega arith)))
    ∙ omega arith

no_marks_count : (k : ℕ) → mark_count (replicate k 0) ≡ 0
unfolding mark_count ones
no_marks_count zero = refl
no_marks_count (suc k) = omega (arith, no_marks_count k)

-- marks made from none: as many as cassettes, where none stands twice
pub count_of : (k : ℕ) (l : List ℕ) → Below (64 * k) l → ((c : ℕ) → count c l ≤ 1) → mark_count (with_marks (replicate k 0) l) ≡ length l
count_of k l b h =
    counts_all (64 * k) (replicate k 0) l (omega (arith, length-replicate {A = ℕ} k 0)) b (λ c p. omega (arith, unmarked k c, h c)) ∙ omega (arith, no_marks_count k)

-- the marks of some words more
pub count_more : (w : List ℕ) (i : ℕ) → i < length w → mark_count (take (suc i) w) ≡ mark_count (take i w) + ones (get_or w i 0)
unfolding mark_count
count_more [] i h = absurd (omega arith)
count_more (x ∷ w) zero h = omega arith
count_more (x ∷ w) (suc i) h = omega (arith, count_more w i (omega arith))
