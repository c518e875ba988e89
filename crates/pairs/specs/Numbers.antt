-- The number of document 01 for each case of the answers on two stores; 0 where nothing is refused. The fault of a store has the same number in the
-- start and in the goal, so the promises name the values, and the numbers follow from them.
use Rattle.std.specs.Prelude.{Result, ℕ}
use Rattle.marks.specs.Taking.{result_number}
use Rattle.store.specs.Numbers.{fault_number}
use Rattle.pairs.specs.declared.PairFault.{PairFault}

abbrev pub pair_fault_number : PairFault → ℕ
pair_fault_number (PairFault.StartRefused f) = fault_number f
pair_fault_number (PairFault.GoalRefused f) = fault_number f
pair_fault_number PairFault.Frames = 8
pair_fault_number PairFault.Cassettes = 9

abbrev pub pair_number : Result ℕ PairFault → ℕ
pair_number = result_number pair_fault_number
