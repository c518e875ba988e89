-- Sets of a row that share no shaft: each shaft is in one of them at most, and a lift within one is not between others.
use mathlib.Core.Bool.{true, false}
use mathlib.Core.List.{List, [], ◌∷◌}
use mathlib.Core.Path.{◌≡◌, refl, sym, ap, ◌∙◌}
use Prim.Native.Nat.{ℕ, zero, suc, ◌≤◌, ◌<◌}
use native.Mathlib.Decide.{ℕ_discrete}
use native.Mathlib.Omega.{arith}
use lib.Dec.{ltb}
use lib.ListN.{length, get_or}
use borrow.Author.Tests.{ltb-true, lt-ltb}
use Rattle.stacks.specs.Count.{one}
use Rattle.stacks.proofs.Counts.{one_most}
use Rattle.lifts.specs.Bytes.{left, entered}
use Rattle.sets.specs.Sets.{has, times_in, Fits, Division, Disjoint}
use Rattle.sets.proofs.SetLaws.{by_test}
use Rattle.within.specs.Within.{InOne}
use Rattle.within.proofs.Lists.{Together}

-- a shaft of one set is in one at least, and of two in two
pub in_one : (row : List ℕ) (x i : ℕ) → i < length row → has (get_or row i 0) x ≡ true → 1 ≤ times_in row x
unfolding times_in
in_one [] x i h e = absurd (omega arith)
in_one (g ∷ row) x zero h e = omega (arith, ap one e)
in_one (g ∷ row) x (suc i) h e = omega (arith, in_one row x i (omega arith) e)

in_two : (row : List ℕ) (x i j : ℕ) → i < length row → j < length row → (i ≡ j → ⊥) → has (get_or row i 0) x ≡ true → has (get_or row j 0) x ≡ true → 2 ≤ times_in row x
unfolding times_in
in_two [] x i j h k n e f = absurd (omega arith)
in_two (g ∷ row) x zero zero h k n e f = absurd (n refl)
in_two (g ∷ row) x zero (suc j) h k n e f = omega (arith, ap one e, in_one row x j (omega arith) f)
in_two (g ∷ row) x (suc i) zero h k n e f = omega (arith, ap one f, in_one row x i (omega arith) e)
in_two (g ∷ row) x (suc i) (suc j) h k n e f = omega (arith, in_two row x i j (omega arith) (omega arith) (λ q. n (ap suc q)) e f)

module _ (m : ℕ) (row : List ℕ) (d : Disjoint m row) where
  pub in_few : (x : ℕ) → times_in row x ≤ 1
  in_few x = omega (arith, d x, one_most (ltb x m))

  -- a shaft of a set is below m
  pub in_below : (x : ℕ) → 0 < times_in row x → x < m
  in_below x h = by_test (ltb x m) (λ e. ltb-true x m e) (λ e. absurd (omega (arith, d x, ap one e)))

  -- a lift within a set of the row has both of its shafts in any other, or neither
  pub in_one_together : (i : ℕ) → i < length row → (b : ℕ) → InOne row b → Together (get_or row i 0) b
  in_one_together i h b o =
      elim (ℕ_discrete i o.place) [
        | yes e ↦
            let f : (x : ℕ) → has (get_or row o.place 0) x ≡ true → has (get_or row i 0) x ≡ true = λ x q. ap (λ (k : ℕ). has (get_or row k 0) x) e ∙ q in
            f (left b) o.inside.0 ∙ sym (f (entered b) o.inside.1)
        | no n ↦
            let f : (x : ℕ) → has (get_or row o.place 0) x ≡ true → has (get_or row i 0) x ≡ false
            = λ x q. by_test (has (get_or row i 0) x) (λ t. absurd (omega (arith, in_few x, in_two row x i o.place h o.there n t q))) (λ t. t) in
            f (left b) o.inside.0 ∙ sym (f (entered b) o.inside.1)
      ]

-- one set that has no shaft but those below m, as a row
pub fits_disjoint : (m some : ℕ) → Fits m some → Disjoint m (some ∷ [])
unfolding times_in
fits_disjoint m some f x =
    by_test (has some x)
    (λ e. omega (arith, ap one e, ap one (lt-ltb x m (f x e))))
    (λ e. omega (arith, ap one e))

-- groups that divide the shafts share none
pub division_disjoint : (m : ℕ) (groups : List ℕ) → Division m groups → Disjoint m groups
division_disjoint m groups d x = omega (arith, d x)
