-- The number of document 01 ("Refused because of the input", "Refused because of the state") for each case of each answer; 0 where nothing is refused.
-- 6 is retired (request 3/13) and is not used again.
use Rattle.std.specs.Prelude.{ℕ, Result}
use Rattle.marks.specs.declared.CassetteFault.{CassetteFault}
use Rattle.marks.specs.Taking.{result_number}
use Rattle.lifts.specs.Numbers.{refusal_number}
use Rattle.store.specs.declared.Fault.{Fault}
use Rattle.store.specs.declared.LiftFault.{LiftFault}

abbrev pub fault_number : Fault → ℕ
fault_number Fault.OutOfPlace = 12
fault_number Fault.TooHigh = 3
fault_number Fault.NoCassette = 4
fault_number Fault.Twice = 5

-- the fault of a store one of whose cassettes has a fault
abbrev pub fault_of : CassetteFault → Fault
fault_of CassetteFault.NoCassette = Fault.NoCassette
fault_of CassetteFault.Twice = Fault.Twice

abbrev pub verdict_number : Result Unit Fault → ℕ
verdict_number = result_number fault_number

abbrev pub lift_fault_number : LiftFault → ℕ
lift_fault_number (LiftFault.StoreRefused f) = fault_number f
lift_fault_number (LiftFault.LiftRefused r) = refusal_number r

abbrev pub answer_number : Result Unit LiftFault → ℕ
answer_number = result_number lift_fault_number
