-- How often a number stands in a list, and that stores in which every number stands equally often hold equally many cassettes.
use borrow.Author.Tests.{eq-eqb, ne_eqb}
use mathlib.Core.Bool.{Bool, true, false}
use mathlib.Core.Path.{◌≡◌, refl, sym, ap, ◌∙◌}
use mathlib.Core.List.{List, [], ◌∷◌, ◌++◌}
use Prim.Native.Nat.{ℕ, zero, suc, ◌+◌, ◌≤◌, ◌<◌}
use native.Mathlib.Decide.{ℕ_discrete}
use native.Mathlib.Omega.{arith}
use lib.Dec.{eqb}
use lib.ListN.{length, length-append}
use Rattle.stacks.specs.Run.{Stacks}
use Rattle.stacks.specs.Count.{sum, one, count, occurrences, total}
use Rattle.stacks.proofs.Sums.{sum_add, sum_alone}

-- One number counts once at most.
pub one_most : (b : Bool) → one b ≤ 1
one_most true = omega arith
one_most false = omega arith

-- The count of two lists joined.
pub count_append : (c : ℕ) (l r : List ℕ) → count c (l ++ r) ≡ count c l + count c r
unfolding count
count_append c [] r = omega arith
count_append c (x ∷ l) r = omega (arith, count_append c l r)

-- The count of a list with one number more at its end.
pub count_last : (c : ℕ) (l : List ℕ) (x : ℕ) → count c (l ++ (x ∷ [])) ≡ count c l + one (eqb c x)
unfolding count
count_last c l x = omega (arith, count_append c l (x ∷ []))

-- The number on top is counted.
pub count_own : (c : ℕ) (l : List ℕ) → 0 < count c (c ∷ l)
unfolding count
count_own c l = omega (arith, ap one (eq-eqb c c refl))

-- A place where c stands in a list.
pub record Standing (c : ℕ) (l : List ℕ) : Type 0 where
  pub above : List ℕ
  pub under : List ℕ
  pub split : l ≡ above ++ c ∷ under

-- A number that is counted stands somewhere.
pub standing : (c : ℕ) (l : List ℕ) → 0 < count c l → Standing c l
unfolding count
standing c [] h = absurd (omega arith)
standing c (x ∷ l) h = elim (ℕ_discrete c x) [
  | yes e ↦ record { above = []; under = l; split = rw e }
  | no n ↦
      let s = standing c l (omega (arith, ap one (ne_eqb c x n))) in
      record { above = x ∷ s.above; under = s.under; split = ap (λ (r : List ℕ). x ∷ r) s.split }
]

-- Lists in which every number stands equally often are equally long.
pub same_length : (l r : List ℕ) → ((c : ℕ) → count c l ≡ count c r) → length l ≡ length r
unfolding count
same_length [] [] h = refl
same_length [] (x ∷ r) h = absurd (omega (arith, h x, count_own x r))
same_length (x ∷ l) r h =
    let s = standing x r (omega (arith, h x, count_own x l)) in
    let rest : (c : ℕ) → count c l ≡ count c (s.above ++ s.under) = λ c. simp count_append (omega (arith, h c, simp count_append at (ap (count c) s.split))) in
    rw s.split (simp length-append (omega (arith, simp length-append at (same_length l (s.above ++ s.under) rest))))

-- Every number of a list is below a bound.
abbrev pub Below : ℕ → List ℕ → Type 0
Below n l = (c : ℕ) → 0 < count c l → c < n

-- A number more counts once among the numbers below n.
pub counts_more : (n x : ℕ) (l : List ℕ) → x < n → sum n (λ c. count c (x ∷ l)) ≡ suc (sum n (λ c. count c l))
unfolding count
counts_more n x l h =
    let once : sum n (λ c. one (eqb c x)) ≡ 1 = sum_alone n (λ c. one (eqb c x)) x h (λ c i d. ap one (ne_eqb c x d)) ∙ ap one (eq-eqb x x refl) in
    omega (arith, sum_add n (λ c. one (eqb c x)) (λ c. count c l))

-- What adds up over lists adds up over the shafts, joined one after the other.
pub joined_adds : (f : List ℕ → ℕ) → f [] ≡ 0 → ((l r : List ℕ) → f (l ++ r) ≡ f l + f r) → (S : Stacks) (joined : ℕ → List ℕ) → joined 0 ≡ []
    → ((m : ℕ) → joined (suc m) ≡ joined m ++ S m) → (m : ℕ) → f (joined m) ≡ sum m (λ i. f (S i))
unfolding sum
joined_adds f none more S joined first next zero = ap f first ∙ none
joined_adds f none more S joined first next (suc m) =
    omega (arith, ap f (next m), more (joined m) (S m), joined_adds f none more S joined first next m)

-- All shafts in one list.
all : ℕ → Stacks → List ℕ
all zero S = []
all (suc m) S = all m S ++ S m

all_adds : (f : List ℕ → ℕ) → f [] ≡ 0 → ((l r : List ℕ) → f (l ++ r) ≡ f l + f r) → (m : ℕ) (S : Stacks) → f (all m S) ≡ sum m (λ i. f (S i))
unfolding all
all_adds f none more m S = joined_adds f none more S (λ k. all k S) refl (λ k. refl) m

-- Stores in which every number stands equally often hold equally many cassettes.
pub same_total : (m : ℕ) (S T : Stacks) → ((c : ℕ) → occurrences m c S ≡ occurrences m c T) → total m S ≡ total m T
unfolding occurrences total count
same_total m S T h =
    let long = all_adds length refl length-append m in
    let often : (c : ℕ) → count c (all m S) ≡ count c (all m T) =
    λ c. omega (arith, all_adds (count c) refl (count_append c) m S, h c, all_adds (count c) refl (count_append c) m T) in
    sym (long S) ∙ same_length (all m S) (all m T) often ∙ long T
