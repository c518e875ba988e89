-- The promise of the list maker is exact: no two values of its answer are right at once but for the count of a list, 15 is given exactly where no list exists, a list made exactly
-- where one does and enough is lent, and the greatest list space always suffices.
use borrow.Author.Tests.{lt-ltb, le-ltb}
use mathlib.Core.Bool.{cond}
use mathlib.Core.List.{List}
use mathlib.Core.Path.{◌≡◌, refl, sym, ap, ◌∙◌, subst}
use Prim.Native.Nat.{ℕ, ◌≤◌}
use native.Mathlib.Omega.{arith}
use lib.Dec.{ltb}
use lib.ListN.{length}
use Rattle.std.specs.Prelude.{Result, Ok, Err, IsOk}
use Rattle.std.specs.Result.{result_unwrap_or}
use Rattle.store.specs.declared.Store.{Store}
use Rattle.store.specs.Lists.{Reachable}
use Rattle.store.specs.Slots.{cassette_count, list_space}
use Rattle.marks.proofs.Faulted.{first_stays}
use Rattle.store.proofs.Faults.{fault_either}
use Rattle.store.proofs.Space.{list_space_most}
use Rattle.reach.specs.Pairs.{pair_fault, Comparable}
use Rattle.reach.specs.Tests.{rule_test}
use Rattle.reach.proofs.Sets.{pair_either, comparable_faultless}
use Rattle.pairs.specs.declared.PairFault.{PairFault}
use Rattle.pairs.proofs.PairExact.{fault_numbers, pair_told, pair_told_lem, pair_numbered}
use Rattle.reachable.proofs.Exact.{test_true, test_false}
use Rattle.plans.specs.declared.PlanFault.{PlanFault}
use Rattle.plans.specs.Numbers.{plan_number, plan_fault}
use Rattle.plans.specs.Promises.{PlanSays, Lists, PlanLeaves, PlanIs}

-- no fault of two stores is 10
pub not_ten : (s t : Store) → pair_fault s t ≡ 10 → ⊥
not_ten =
    pair_either (λ k. k ≡ 10 → ⊥) (λ e. omega arith) (λ e. omega arith) (λ e. omega arith)
    (fault_either (λ k. k ≡ 10 → ⊥) (λ e. omega arith) (λ e. omega arith) (λ e. omega arith) (λ e. omega arith) (λ e. omega arith))

-- an answer without its count, which the promise leaves free
abbrev pub answered : Result ℕ PlanFault → Result Unit PlanFault
answered (Ok n) = Ok tt
answered (Err f) = Err f

answered_fault : (a : Result ℕ PlanFault) {f : PlanFault} → answered a ≡ Err f → a ≡ Err f
answered_fault (Ok n) e = cc e
answered_fault (Err g) e = cc e

answered_list : (a : Result ℕ PlanFault) → answered a ≡ Ok tt → IsOk a
answered_list (Ok n) e = refl
answered_list (Err g) e = cc e

pub listed_count : (a : Result ℕ PlanFault) → IsOk a → a ≡ Ok (result_unwrap_or a 0)
listed_count (Ok n) e = refl
listed_count (Err f) e = cc e

module _ (s t : Store) (came : List ℕ) where
  -- the answer, told by the faults, the rule's test and the lent space
  plan_told : Result ℕ PairFault → Result Unit PlanFault
  plan_told (Ok n) = cond (rule_test s t) (cond (ltb (length came) (list_space s)) (Err PlanFault.LittleSpace) (Ok tt)) (Err PlanFault.Unreachable)
  plan_told (Err f) = Err (PlanFault.Refused f)

  comparable_told : Comparable s t → pair_told s t ≡ Ok (cassette_count s)
  comparable_told p = pair_told_lem s t (Ok (cassette_count s)) (p, refl)

  plan_told_lem : (a : Result ℕ PlanFault) → PlanSays s t came a → plan_told (pair_told s t) ≡ answered a
  unfolding plan_told
  plan_told_lem (Err (PlanFault.Refused f)) e = ap plan_told (pair_told_lem s t (Err f) e)
  plan_told_lem (Err PlanFault.Unreachable) (p, n) = ap plan_told (comparable_told p) ∙ simp (test_false s t p n)
  plan_told_lem (Err PlanFault.LittleSpace) (p, (l, h)) =
      ap plan_told (comparable_told p) ∙ simp (test_true s t p l, lt-ltb (length came) (list_space s) h)
  plan_told_lem (Ok n) (p, (l, h)) =
      ap plan_told (comparable_told p) ∙ simp (test_true s t p l, le-ltb (length came) (list_space s) h)

  pub one_plan : (a b : Result ℕ PlanFault) → PlanSays s t came a → PlanSays s t came b → answered a ≡ answered b
  one_plan a b p q = sym (plan_told_lem a p) ∙ plan_told_lem b q

  -- its number is the first that applies
  pub plan_numbered : (a : Result ℕ PlanFault) → PlanSays s t came a → plan_number a ≡ plan_fault s t (length came)
  plan_numbered (Err (PlanFault.Refused f)) e =
      let q = pair_numbered s t (Err f) e in
      q ∙ sym (first_stays (pair_fault s t) _ (λ z. omega (arith, q, fault_numbers f)))
  plan_numbered (Err PlanFault.Unreachable) (p, n) = simp (comparable_faultless s t p, test_false s t p n)
  plan_numbered (Err PlanFault.LittleSpace) (p, (l, h)) = simp (comparable_faultless s t p, test_true s t p l, lt-ltb (length came) (list_space s) h)
  plan_numbered (Ok n) (p, (l, h)) = simp (comparable_faultless s t p, test_true s t p l, le-ltb (length came) (list_space s) h)

  pub ten_is_little : (a : Result ℕ PlanFault) → PlanSays s t came a → plan_number a ≡ 10 → a ≡ Err PlanFault.LittleSpace
  ten_is_little (Ok n) q e = absurd (omega arith)
  ten_is_little (Err (PlanFault.Refused f)) q e = absurd (not_ten s t (sym (pair_numbered s t (Err f) q) ∙ e))
  ten_is_little (Err PlanFault.Unreachable) q e = absurd (omega arith)
  ten_is_little (Err PlanFault.LittleSpace) q e = refl

  module _ (out : List ℕ) (r : Result ℕ PlanFault) (q : PlanIs s t came out r) where
    -- the list of an answer that says there is one
    pub listed_list : IsOk r → Lists s t came out (result_unwrap_or r 0)
    listed_list e = subst (PlanLeaves s t came out) (listed_count r e) q.left

    -- no other answer writes a byte, and none holds a count
    pub unlisted_untouched : (IsOk r → ⊥) → (result_unwrap_or r 0 ≡ 0) × (out ≡ came)
    unlisted_untouched = go r q.left
      where
        go : (a : Result ℕ PlanFault) → PlanLeaves s t came out a → (IsOk a → ⊥) → (result_unwrap_or a 0 ≡ 0) × (out ≡ came)
        go (Ok n) l u = absurd (u refl)
        go (Err f) l u = (refl, l)

    -- on comparable stores, 15 exactly if no list leads from start to goal, whatever is lent; a list exactly if one does and enough is lent
    module _ (p : Comparable s t) where
      pub unreachable_exactly : ((Reachable s t → ⊥) → r ≡ Err PlanFault.Unreachable) × (r ≡ Err PlanFault.Unreachable → Reachable s t → ⊥)
      unreachable_exactly = (
        λ n. answered_fault r (one_plan r (Err PlanFault.Unreachable) q.answer (p, n)),
        λ e. (subst (PlanSays s t came) e q.answer).1,
      )

      pub listed_exactly : (Reachable s t × (list_space s ≤ length came) → IsOk r) × (IsOk r → Reachable s t × (list_space s ≤ length came))
      listed_exactly = (
        λ l. answered_list r (one_plan r (Ok 0) q.answer (p, l)),
        λ e. (subst (PlanSays s t came) (listed_count r e) q.answer).1,
      )

    -- 10 is never given where the greatest list space is lent
    pub space_suffices : 18432 ≤ length came → r ≡ Err PlanFault.LittleSpace → ⊥
    space_suffices h e =
        let w = subst (PlanSays s t came) e q.answer in
        omega (arith, list_space_most s w.0.start, w.1.1)

-- 0 and 15 are given for one answer each, and no number is above 15
pub zero_is_listed : (a : Result ℕ PlanFault) → plan_number a ≡ 0 → IsOk a
zero_is_listed (Ok n) e = refl
zero_is_listed (Err (PlanFault.Refused f)) e = absurd (omega (arith, fault_numbers f))
zero_is_listed (Err PlanFault.LittleSpace) e = absurd (omega arith)
zero_is_listed (Err PlanFault.Unreachable) e = absurd (omega arith)

pub fifteen_is_unreachable : (a : Result ℕ PlanFault) → plan_number a ≡ 15 → a ≡ Err PlanFault.Unreachable
fifteen_is_unreachable (Ok n) e = absurd (omega arith)
fifteen_is_unreachable (Err (PlanFault.Refused f)) e = absurd (omega (arith, fault_numbers f))
fifteen_is_unreachable (Err PlanFault.LittleSpace) e = absurd (omega arith)
fifteen_is_unreachable (Err PlanFault.Unreachable) e = refl

pub number_most : (a : Result ℕ PlanFault) → plan_number a ≤ 15
number_most (Ok n) = omega arith
number_most (Err (PlanFault.Refused f)) = omega (arith, fault_numbers f)
number_most (Err PlanFault.LittleSpace) = omega arith
number_most (Err PlanFault.Unreachable) = omega arith
