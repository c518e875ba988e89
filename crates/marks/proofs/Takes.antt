-- Taking one cassette more: the fault by what is marked, and the marks with it.
use borrow.Author.Tests.{eqb-true, eq-eqb, ne_eqb, lt-ltb, le-ltb, ltb-true, ltb-false, eqb-false}
use mathlib.Core.Bool.{Bool, true, false, not, ◌&&◌, cond}
use mathlib.Core.List.{List, [], ◌∷◌, ◌++◌}
use mathlib.Core.Path.{◌≡◌, refl, sym, ap, ◌∙◌}
use Prim.Native.Nat.{ℕ, ◌+◌, min, ◌≤◌, ◌<◌}
use native.Mathlib.Decide.{ℕ_discrete}
use native.Mathlib.Omega.{arith}
use lib.Dec.{eqb, ltb}
use lib.ListN.{length}
use Rattle.std.specs.Prelude.{Ok, Err}
use Rattle.stacks.specs.Count.{count, one}
use Rattle.stacks.proofs.Counts.{count_last}
use Rattle.marks.specs.declared.CassetteFault.TheVariants.{NoCassette, Twice}
use Rattle.marks.specs.Cassettes.{numbers, blank, is_blank, is_cassette, Once, given, cassette_fault}
use Rattle.marks.specs.Marking.{mark_words, no_marks, marked, with_mark, with_cassette, with_marks, others, marks_of, mark_count, Marked}
use Rattle.marks.specs.Taking.{TakenIs}
use Rattle.std.proofs.lemmas.Bool.{and_parts}
use Rattle.marks.proofs.Faulted.{first_none, first_either, given_either, given_none, not_given}
use Rattle.marks.proofs.MarkLaws.{with_more, marked_exactly, count_of}
use Rattle.marks.proofs.Others.{no_other_blank, others_last, others_count, others_fewer, no_blank, others_length}

-- a cassette's number is one of 1 to 4,095
pub cassette_range : (c : ℕ) → is_cassette c ≡ true → (0 < c) × (c < numbers)
cassette_range c e = let p = and_parts (ltb 0 c) (ltb c numbers) e in (ltb-true 0 c p.0, ltb-true c numbers p.1)

pub range_cassette : (c : ℕ) → (c ≡ 0 → ⊥) → c < numbers → is_cassette c ≡ true
range_cassette c n h = simp (lt-ltb 0 c (omega arith), lt-ltb c numbers h)

-- the fault of one cassette more, by cases
module _ (l : List ℕ) (c : ℕ) where
  pub cassette_either : (P : ℕ → Type 0) → P 0 → P 4 → P 5 → P (cassette_fault l c)
  unfolding cassette_fault
  cassette_either P none four five =
      first_either P _ _ (given_either P (not (is_cassette c)) 4 none four) (given_either P (not (is_blank c) && ltb 0 (count c l)) 5 none five)

  pub cassette_taken : is_cassette c ≡ true → (is_blank c ≡ false → count c l ≡ 0) → cassette_fault l c ≡ 0
  unfolding cassette_fault
  cassette_taken n h = simp n (by_blank (is_blank c) refl)
    where
      by_blank : (r : Bool) → is_blank c ≡ r → given (not r && ltb 0 (count c l)) 5 ≡ 0
      by_blank true e = refl
      by_blank false e = simp (le-ltb 0 (count c l) (omega (arith, h e)))

  pub taken_cassette : cassette_fault l c ≡ 0 → (is_cassette c ≡ true) × (is_blank c ≡ false → count c l ≡ 0)
  unfolding cassette_fault
  taken_cassette e =
      let p = first_none _ _ e in
      (not_given (is_cassette c) 3 p.0, λ r. let h : count c l ≤ 0 = ltb-false 0 (count c l) (sym (ap (λ (t : Bool). not t && ltb 0 (count c l)) r) ∙ given_none _ 4 p.1) in omega arith)

-- what the mark of a number says
pub mark_is : (words l : List ℕ) (c : ℕ) → Marked words l → c < numbers → marked words c ≡ min 1 (count c (others l))
unfolding marks_of
mark_is words l c m h = ap (λ (v : List ℕ). marked v c) m.marks ∙ marked_exactly mark_words (others l) c h

module _ (words l : List ℕ) (c : ℕ) (m : Marked words l) (h : c < numbers) where
  -- a marked cassette stands in the list, and is no blank
  mark_found : eqb (marked words c) 1 ≡ true → (is_blank c ≡ false) × (0 < count c l)
  mark_found t =
      let n : 0 < count c (others l) = omega (arith, mark_is words l c m h, eqb-true (marked words c) 1 t) in
      (no_other_blank c (λ e. omega (arith, ap (λ (d : ℕ). count d (others l)) e, no_blank l)), omega (arith, others_fewer c l))

  -- a cassette without a mark does not, or is a blank
  mark_missing : is_blank c ≡ false → eqb (marked words c) 1 ≡ false → count c l ≡ 0
  mark_missing e t = let n : marked words c ≡ 1 → ⊥ = eqb-false (marked words c) 1 t in omega (arith, mark_is words l c m h, others_count c e l)

pub nothing_marked : Marked no_marks []
unfolding marks_of with_marks others count
nothing_marked = record { marks = refl; below = λ c h. absurd (omega arith); once = λ c r. omega arith }

-- one cassette more stands once too, if it stood nowhere or is a blank
pub once_more : (l : List ℕ) (x : ℕ) → Once l → (is_blank x ≡ false → count x l ≡ 0) → Once (l ++ (x ∷ []))
once_more l x p e c r =
    rw (count_last c l x)
    (elim (ℕ_discrete c x) [
      | yes q ↦ omega (arith, ap (λ (n : ℕ). count n l) q, ap one (eq-eqb c x q), e (rw (← q) r))
      | no q ↦ omega (arith, p c r, ap one (ne_eqb c x q))
    ])

-- the marks of the list with one more
marked_more : (words l : List ℕ) (c : ℕ) → Marked words l → c < numbers → (is_blank c ≡ false → count c l ≡ 0)
    → Marked (with_cassette words c) (l ++ (c ∷ []))
unfolding marks_of
marked_more words l c m h z = record {
  marks = go (is_blank c) ∙ ap (with_marks no_marks) (sym (others_last l c));
  below = λ d p. elim (ℕ_discrete d c) [
    | yes e ↦ omega arith
    | no n ↦ m.below d (omega (arith, count_last d l c, ap one (ne_eqb d c n)))
  ];
  once = once_more l c m.once z;
}
  where
    go : (b : Bool) → cond b words (with_mark words c) ≡ with_marks no_marks (cond b (others l) (others l ++ (c ∷ [])))
    go true = m.marks
    go false = ap (λ (w : List ℕ). with_mark w c) m.marks ∙ sym (with_more no_marks (others l) c)

-- the answers of taking a cassette
module _ (words : List ℕ) (c : ℕ) where
  pub none_is : is_cassette c ≡ false → TakenIs words c words (Err NoCassette)
  unfolding cassette_fault
  none_is e = record {
    number = sym (simp e);
    words_are = refl;
    fault = λ before m. sym (simp e);
    marks = λ before m. refl;
  }

  module _ (n : is_cassette c ≡ true) where
    h : c < numbers
    h = (cassette_range c n).1

    pub twice_is : eqb (marked words c) 1 ≡ true → TakenIs words c words (Err Twice)
    unfolding cassette_fault
    twice_is t = record {
      number = sym (simp (n, t));
      words_are = refl;
      fault = λ before m.
          let p = mark_found words before c m h t in
          sym (simp (n, p.0, lt-ltb 0 (count c before) p.1));
      marks = λ before m. refl;
    }

    pub added_is : eqb (marked words c) 1 ≡ false → TakenIs words c (with_cassette words c) (Ok tt)
    added_is t =
        let z : (before : List ℕ) → Marked words before → is_blank c ≡ false → count c before ≡ 0 = λ before m b. mark_missing words before c m h b t in
        record {
          number = sym (simp (n, t));
          words_are = refl;
          fault = λ before m. sym (cassette_taken before c n (z before m));
          marks = λ before m. marked_more words before c m h (z before m);
        }

-- "n is the marks of the others plus the count of blanks" (request 5/13)
pub marks_counted : (words l : List ℕ) → Marked words l → mark_count words + count blank l ≡ length l
unfolding marks_of
marks_counted words l m =
    let once : (c : ℕ) → count c (others l) ≤ 1 = λ c. elim (ℕ_discrete c blank) [
      | yes e ↦ rw e (omega (arith, no_blank l))
      | no n ↦ omega (arith, others_fewer c l, m.once c (no_other_blank c n))
    ] in
    omega (arith, ap mark_count m.marks, count_of mark_words (others l) (λ c h. m.below c (omega (arith, others_fewer c l))) once, others_length l)
