-- The cassettes of a list that are no blanks (request 5/13): each number but the blank stands among them as often as in the list, and with the blanks they
-- are as many as its cassettes.
use borrow.Author.Tests.{eqb-true, eq-eqb, ne_eqb}
use mathlib.Core.Bool.{Bool, true, false, cond}
use mathlib.Core.List.{List, [], ◌∷◌, ◌++◌}
use mathlib.Core.Path.{◌≡◌, refl, sym, ap, ◌∙◌}
use Prim.Native.Nat.{ℕ, ◌+◌, ◌≤◌}
use native.Mathlib.Decide.{ℕ_discrete}
use native.Mathlib.Omega.{arith}
use lib.Dec.{eqb}
use lib.ListN.{length}
use Rattle.stacks.specs.Count.{count, one}
use Rattle.stacks.proofs.Deciding.{true_false}
use Rattle.marks.specs.Cassettes.{blank, is_blank}
use Rattle.marks.specs.Marking.{others}

-- there is one blank
pub blank_is : is_blank blank ≡ true
unfolding is_blank
blank_is = refl

pub only_blank : (c : ℕ) → is_blank c ≡ true → c ≡ blank
unfolding is_blank
only_blank c e = eqb-true c blank e

pub no_other_blank : (c : ℕ) → (c ≡ blank → ⊥) → is_blank c ≡ false
unfolding is_blank
no_other_blank c n = ne_eqb c blank n

-- a blank counts once among the blanks, and no other cassette does
pub blank_counts : (c : ℕ) → one (eqb blank c) ≡ one (is_blank c)
unfolding is_blank
blank_counts c = elim (ℕ_discrete c blank) [
  | yes e ↦ ap one (eq-eqb blank c (sym e) ∙ sym (eq-eqb c blank e))
  | no n ↦ ap one (ne_eqb blank c (λ e. n (sym e)) ∙ sym (ne_eqb c blank n))
]

-- what goes from a list to one with a cassette more, a blank that is left out or another that is not, holds of every list and its others
each_cassette : (P : List ℕ → List ℕ → Type 0) → P [] [] → ((c : ℕ) (l r : List ℕ) → is_blank c ≡ true → P l r → P (c ∷ l) r)
    → ((c : ℕ) (l r : List ℕ) → is_blank c ≡ false → P l r → P (c ∷ l) (c ∷ r)) → (l : List ℕ) → P l (others l)
unfolding others
each_cassette P none out in-it [] = none
each_cassette P none out in-it (c ∷ l) = go (is_blank c) refl (each_cassette P none out in-it l)
  where
    go : (b : Bool) → is_blank c ≡ b → P l (others l) → P (c ∷ l) (cond b (others l) (c ∷ others l))
    go true e p = out c l (others l) e p
    go false e p = in-it c l (others l) e p

pub others_last : (l : List ℕ) (c : ℕ) → others (l ++ (c ∷ [])) ≡ cond (is_blank c) (others l) (others l ++ (c ∷ []))
unfolding others
others_last [] c = refl
others_last (x ∷ l) c = go (is_blank x) (is_blank c) (others_last l c)
  where
    go : (b d : Bool) → others (l ++ (c ∷ [])) ≡ cond d (others l) (others l ++ (c ∷ []))
        → cond b (others (l ++ (c ∷ []))) (x ∷ others (l ++ (c ∷ []))) ≡ cond d (cond b (others l) (x ∷ others l)) (cond b (others l) (x ∷ others l) ++ (c ∷ []))
    go true d e = e
    go false true e = ap (λ (r : List ℕ). x ∷ r) e
    go false false e = ap (λ (r : List ℕ). x ∷ r) e

pub others_count : (c : ℕ) → is_blank c ≡ false → (l : List ℕ) → count c (others l) ≡ count c l
unfolding count
others_count c e =
    each_cassette (λ l r. count c r ≡ count c l) refl
    (λ x l r f h. omega (arith, h, ap one (ne_eqb c x (λ g. true_false (sym f ∙ ap is_blank (sym g) ∙ e)))))
    (λ x l r f h. omega (arith, h))

-- none stands there more often
pub others_fewer : (c : ℕ) (l : List ℕ) → count c (others l) ≤ count c l
unfolding count
others_fewer c = each_cassette (λ l r. count c r ≤ count c l) (omega arith) (λ x l r f h. omega (arith, h)) (λ x l r f h. omega (arith, h))

pub no_blank : (l : List ℕ) → count blank (others l) ≡ 0
unfolding count
no_blank = each_cassette (λ l r. count blank r ≡ 0) refl (λ x l r f h. h) (λ x l r f h. omega (arith, h, blank_counts x, ap one f))

pub others_length : (l : List ℕ) → length (others l) + count blank l ≡ length l
unfolding count
others_length =
    each_cassette (λ l r. length r + count blank l ≡ length l) refl
    (λ x l r f h. omega (arith, h, blank_counts x, ap one f))
    (λ x l r f h. omega (arith, h, blank_counts x, ap one f))
