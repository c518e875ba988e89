-- The number of document 01 for each answer of the list maker; 0 where a list was made. And the number that the list maker gives, by the two stores and
-- the length of the lent space.
use Rattle.std.specs.Prelude.{not, Result, ℕ, ltb}
use Rattle.marks.specs.Cassettes.{given, first}
use Rattle.marks.specs.Taking.{result_number}
use Rattle.store.specs.declared.Store.{Store}
use Rattle.store.specs.Slots.{list_space}
use Rattle.reach.specs.Pairs.{pair_fault}
use Rattle.reach.specs.Tests.{rule_test}
use Rattle.pairs.specs.Numbers.{pair_fault_number}
use Rattle.plans.specs.declared.PlanFault.{PlanFault}

abbrev pub plan_fault_number : PlanFault → ℕ
plan_fault_number (PlanFault.Refused f) = pair_fault_number f
plan_fault_number PlanFault.Unreachable = 15
plan_fault_number PlanFault.LittleSpace = 10

abbrev pub plan_number : Result ℕ PlanFault → ℕ
plan_number = result_number plan_fault_number

-- "For two stores: the start, the goal, 8, 9", then 15, and last 10: "When both apply, 15 shall be given" (request 6/13)
abbrev pub plan_fault : Store → Store → ℕ → ℕ
plan_fault s t lent = first (pair_fault s t) (first (given (not (rule_test s t)) 15) (given (ltb lent (list_space s)) 10))
