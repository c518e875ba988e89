-- What request 6/13 changed: "The old answers that change are those, and only those, where the list maker gave 10 and the goal is unreachable: 10
-- becomes 15."
use mathlib.Core.Bool.{Bool, true, false, not}
use mathlib.Core.List.{List}
use mathlib.Core.Logic.{◌↔◌}
use mathlib.Core.Path.{◌≡◌, refl}
use Prim.Native.Nat.{ℕ, zero, suc}
use native.Mathlib.Decide.{ℕ_discrete}
use native.Mathlib.Omega.{arith}
use lib.Dec.{ltb}
use lib.ListN.{length}
use Rattle.std.specs.Prelude.{Result}
use Rattle.stacks.specs.Deciding.{Decides}
use Rattle.marks.specs.Cassettes.{given, first}
use Rattle.store.specs.declared.Store.{Store}
use Rattle.store.specs.Lists.{Reachable}
use Rattle.store.specs.Slots.{list_space}
use Rattle.reach.specs.Pairs.{pair_fault}
use Rattle.reach.specs.Tests.{rule_test}
use Rattle.reach.proofs.RuleTests.{reachable_test}
use Rattle.reach.proofs.Sets.{comparable}
use Rattle.plans.specs.declared.PlanFault.{PlanFault}
use Rattle.plans.specs.Numbers.{plan_number, plan_fault}
use Rattle.plans.specs.Promises.{PlanSays}
use Rattle.plans.proofs.PlanExact.{not_ten, plan_numbered}

-- the number before the request: 10 came before 15
abbrev pub ten_first : Store → Store → ℕ → ℕ
ten_first s t lent = first (pair_fault s t) (first (given (ltb lent (list_space s)) 10) (given (not (rule_test s t)) 15))

-- a new number and an old one: they differ exactly where the old one is 10 and P does not hold, and then the new one is 15
pub record TenBecomesFifteen (new old : ℕ) (P : Type 0) : Type 0 where
  pub differ : (new ≡ old → ⊥) ↔ ((old ≡ 10) × (P → ⊥))
  pub fifteen : old ≡ 10 → (P → ⊥) → new ≡ 15

-- what stayed: a number that is not 10, or with P
stayed : {k : ℕ} {P : Type 0} → (k ≡ 10 → (P → ⊥) → ⊥) → TenBecomesFifteen k k P
stayed u = record { differ = (λ n. absurd (n refl), λ p e. u p.0 p.1); fifteen = λ e n. absurd (u e n) }

-- the two orders, by whether the space is little and what a test of P says
by_tests : (little so : Bool) {P : Type 0} → Decides so P
    → TenBecomesFifteen (first (given (not so) 15) (given little 10)) (first (given little 10) (given (not so) 15)) P
by_tests true true d = stayed (λ e n. n (d.so refl))
by_tests false true d = stayed (λ e n. n (d.so refl))
by_tests true false d = record { differ = (λ n. (refl, d.not_so refl), λ p e. omega arith); fifteen = λ e n. refl }
by_tests false false d = stayed (λ e n. omega arith)

-- a fault that comes before both, and is not 10
by_fault : (f a b : ℕ) {P : Type 0} → (f ≡ 0 → ⊥) → (f ≡ 10 → ⊥) → TenBecomesFifteen (first f a) (first f b) P
by_fault zero a b z n = absurd (z refl)
by_fault (suc f) a b z n = stayed (λ e _. n e)

pub ten_becomes_fifteen : (s t : Store) (lent : ℕ) → TenBecomesFifteen (plan_fault s t lent) (ten_first s t lent) (Reachable s t)
ten_becomes_fifteen s t lent =
    elim (ℕ_discrete (pair_fault s t) 0) [
      | yes z ↦ rw z (by_tests (ltb lent (list_space s)) (rule_test s t) (reachable_test s t (comparable s t z)))
      | no n ↦ by_fault (pair_fault s t) _ _ n (not_ten s t)
    ]

-- so of every answer that is right
pub answers_changed : (s t : Store) (came : List ℕ) (a : Result ℕ PlanFault) → PlanSays s t came a
    → TenBecomesFifteen (plan_number a) (ten_first s t (length came)) (Reachable s t)
answers_changed s t came a p = rw (plan_numbered s t came a p) (ten_becomes_fifteen s t (length came))
