-- The number of document 01 for each case of the yes or no; 0 for yes, 15 for no.
use Rattle.std.specs.Prelude.{Bool, true, false, Result, Ok, Err, ℕ}
use Rattle.pairs.specs.declared.PairFault.{PairFault}
use Rattle.pairs.specs.Numbers.{pair_fault_number}

abbrev pub reach_number : Result Bool PairFault → ℕ
reach_number (Ok true) = 0
reach_number (Ok false) = 15
reach_number (Err f) = pair_fault_number f
