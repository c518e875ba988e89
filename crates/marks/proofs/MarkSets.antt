-- Two lists of cassettes have the same marks and equally many blanks exactly if each number stands equally often in both.
use mathlib.Core.Bool.{false}
use mathlib.Core.List.{List}
use mathlib.Core.Path.{◌≡◌, sym, ap, ◌∙◌}
use Prim.Native.Nat.{ℕ, zero, suc, ◌+◌, ◌*◌, ◌/◌, ◌%◌, ◌^◌, ◌<◌}
use native.Mathlib.Decide.{ℕ_discrete, dec_lt}
use native.Mathlib.Numerals.{add-one}
use native.Mathlib.Omega.{arith}
use lib.ListN.{length, get_or}
use lib.Pow.{shr_lt}
use lib.Seq.{ext_get_or}
use Rattle.stacks.specs.Count.{count}
use Rattle.stacks.proofs.Counts.{Below}
use Rattle.marks.specs.Cassettes.{numbers, blank, is_blank}
use Rattle.marks.specs.Marking.{mark_words, no_marks, marked, others, marks_of, Marked}
use Rattle.marks.proofs.Words.{half_bits}
use Rattle.marks.proofs.MarkLaws.{with_length}
use Rattle.marks.proofs.Others.{no_other_blank, others_count, no_blank}
use Rattle.marks.proofs.Takes.{mark_is}

-- numbers of n bits with the same bits are equal
same_bits : (n a b : ℕ) → a < 2 ^ n → b < 2 ^ n → ((k : ℕ) → k < n → a / 2 ^ k % 2 ≡ b / 2 ^ k % 2) → a ≡ b
same_bits zero a b h i e = omega arith
same_bits (suc n) a b h i e =
    let f : a / 2 ≡ b / 2
    = same_bits n (a / 2) (b / 2) (shr_lt n 1 (rw add-one h)) (shr_lt n 1 (rw add-one i)) λ k j. rw (half_bits a k, half_bits b k) (e (suc k) (omega arith)) in
    omega (arith, e 0 (omega arith))

-- words with the same marks are the same words
same_words : (v w : List ℕ) → length v ≡ length w → ((i : ℕ) → get_or v i 0 < 2 ^ 64) → ((i : ℕ) → get_or w i 0 < 2 ^ 64)
    → ((c : ℕ) → c < 64 * length v → marked v c ≡ marked w c) → v ≡ w
unfolding marked
same_words v w m p q e =
    ext_get_or 0 v w m λ i h. same_bits 64 (get_or v i 0) (get_or w i 0) (p i) (q i) λ k j.
    let d : (64 * i + k) / 64 ≡ i = omega arith in
    let r : (64 * i + k) % 64 ≡ k = omega arith in
    rw (d, r) at (e (64 * i + k) (omega arith))

-- a list of what slots may show holds no number past it
same_past : (k l : List ℕ) (c : ℕ) → Below numbers k → Below numbers l → (c < numbers → ⊥) → count c k ≡ count c l
same_past k l c p q h =
    elim (dec_lt 0 (count c k)) [
      | yes i ↦ absurd (omega (arith, p c i))
      | no i ↦ elim (dec_lt 0 (count c l)) [ yes j ↦ absurd (omega (arith, q c j)) | no j ↦ omega arith ]
    ]

module _ (v w k l : List ℕ) (p : Marked v k) (q : Marked w l) where
  -- the others stand equally often where every number does
  same_others : ((c : ℕ) → count c k ≡ count c l) → (c : ℕ) → count c (others k) ≡ count c (others l)
  same_others e c = elim (ℕ_discrete c blank) [
    | yes b ↦ rw b (no_blank k ∙ sym (no_blank l))
    | no n ↦ omega (arith, others_count c (no_other_blank c n) k, others_count c (no_other_blank c n) l, e c)
  ]

  pub counts_words : ((i : ℕ) → get_or v i 0 < 2 ^ 64) → ((i : ℕ) → get_or w i 0 < 2 ^ 64) → ((c : ℕ) → count c k ≡ count c l) → v ≡ w
  unfolding marks_of
  counts_words f g e =
      let m : length v ≡ mark_words = ap length p.marks ∙ with_length no_marks (others k) in
      let n : length w ≡ mark_words = ap length q.marks ∙ with_length no_marks (others l) in
      same_words v w (m ∙ sym n) f g λ c h.
      omega (arith, mark_is v k c p (omega arith), mark_is w l c q (omega arith), same_others e c)

  pub words_counts : v ≡ w → count blank k ≡ count blank l → (c : ℕ) → count c k ≡ count c l
  words_counts e d c = elim (ℕ_discrete c blank) [
    | yes b ↦ rw b d
    | no n ↦ elim (dec_lt c numbers) [
      | yes h ↦
          let b : is_blank c ≡ false = no_other_blank c n in
          let same : marked v c ≡ marked w c = rw e in
          omega (arith, mark_is v k c p h, mark_is w l c q h, others_count c b k, others_count c b l, p.once c b, q.once c b)
      | no h ↦ same_past k l c p.below q.below h
    ]
  ]
