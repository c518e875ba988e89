-- The promise of the yes or no is exact: no two values of the answer are right at once, the right one has document 01's number, and "yes" and "no" are
-- given exactly where they are so.
use mathlib.Core.Bool.{Bool, true, false, not}
use mathlib.Core.Path.{◌≡◌, refl, sym, ap, ◌∙◌, subst}
use Prim.Native.Nat.{ℕ}
use native.Mathlib.Omega.{arith}
use Rattle.std.specs.Prelude.{Result, Ok, Err}
use Rattle.stacks.proofs.Deciding.{says_so, says_not}
use Rattle.marks.specs.Cassettes.{given, first}
use Rattle.marks.proofs.Faulted.{first_stays}
use Rattle.store.specs.declared.Store.{Store}
use Rattle.store.specs.Lists.{Reachable}
use Rattle.store.specs.Slots.{cassette_count}
use Rattle.reach.specs.Pairs.{pair_fault, Comparable}
use Rattle.reach.specs.Tests.{rule_test}
use Rattle.reach.proofs.RuleTests.{reachable_test}
use Rattle.reach.proofs.Sets.{comparable_faultless}
use Rattle.pairs.specs.declared.PairFault.{PairFault}
use Rattle.pairs.proofs.PairExact.{fault_numbers, pair_told, pair_told_lem, pair_numbered}
use Rattle.reachable.specs.Numbers.{reach_number}
use Rattle.reachable.specs.Promises.{ReachSays}

module _ (s t : Store) where
  -- the answer, told by the faults and the rule's test
  reach_told : Result ℕ PairFault → Result Bool PairFault
  reach_told (Ok n) = Ok (rule_test s t)
  reach_told (Err f) = Err f

  pub test_true : Comparable s t → Reachable s t → rule_test s t ≡ true
  test_true p = says_so (rule_test s t) (reachable_test s t p)

  pub test_false : Comparable s t → (Reachable s t → ⊥) → rule_test s t ≡ false
  test_false p = says_not (rule_test s t) (reachable_test s t p)

  reach_told_lem : (r : Result Bool PairFault) → ReachSays s t r → reach_told (pair_told s t) ≡ r
  unfolding reach_told
  reach_told_lem (Ok true) (p, q) = ap reach_told (pair_told_lem s t (Ok (cassette_count s)) (p, refl)) ∙ ap Ok (test_true p q)
  reach_told_lem (Ok false) (p, n) = ap reach_told (pair_told_lem s t (Ok (cassette_count s)) (p, refl)) ∙ ap Ok (test_false p n)
  reach_told_lem (Err f) e = ap reach_told (pair_told_lem s t (Err f) e)

  pub one_reach : (r q : Result Bool PairFault) → ReachSays s t r → ReachSays s t q → r ≡ q
  one_reach r q a b = sym (reach_told_lem r a) ∙ reach_told_lem q b

  -- its number is the first of the start's, the goal's, 8, 9 and 15
  pub reach_numbered : (r : Result Bool PairFault) → ReachSays s t r → reach_number r ≡ first (pair_fault s t) (given (not (rule_test s t)) 15)
  reach_numbered (Ok true) (p, l) = simp (comparable_faultless s t p, test_true p l)
  reach_numbered (Err f) e =
      let q = pair_numbered s t (Err f) e in
      q ∙ sym (first_stays (pair_fault s t) _ (λ z. omega (arith, q, fault_numbers f)))
  reach_numbered (Ok false) (p, n) = simp (comparable_faultless s t p, test_false p n)

  -- on comparable stores: yes exactly if some list leads from start to goal, 15 exactly if none of any length does
  module _ (r : Result Bool PairFault) (a : ReachSays s t r) (p : Comparable s t) where
    pub yes_exactly : (Reachable s t → r ≡ Ok true) × (r ≡ Ok true → Reachable s t)
    yes_exactly = (λ l. one_reach r (Ok true) a (p, l), λ e. (subst (ReachSays s t) e a).1)

    pub no_exactly : ((Reachable s t → ⊥) → r ≡ Ok false) × (r ≡ Ok false → Reachable s t → ⊥)
    no_exactly = (λ n. one_reach r (Ok false) a (p, n), λ e. (subst (ReachSays s t) e a).1)

-- so 0 and 15 are given for one answer each
pub zero_is_yes : (r : Result Bool PairFault) → reach_number r ≡ 0 → r ≡ Ok true
zero_is_yes (Ok true) e = refl
zero_is_yes (Err f) e = absurd (omega (arith, fault_numbers f))
zero_is_yes (Ok false) e = absurd (omega arith)

pub fifteen_is_no : (r : Result Bool PairFault) → reach_number r ≡ 15 → r ≡ Ok false
fifteen_is_no (Ok true) e = absurd (omega arith)
fifteen_is_no (Err f) e = absurd (omega (arith, fault_numbers f))
fifteen_is_no (Ok false) e = refl
