-- The number of document 01 ("Refused because of the input"), or of document 02, for each case of an answer; 0 where nothing is refused. 6 is retired (request 3/13) and
-- is not used again.
use Rattle.std.specs.Prelude.{◌⊎◌, ◌≡◌, ℕ, ◌≤◌, Result}
use Rattle.marks.specs.declared.CassetteFault.{CassetteFault}
use Rattle.marks.specs.Taking.{result_number}
use Rattle.store.specs.Numbers.{fault_number}
use Rattle.image.specs.declared.ReadFault.{ReadFault}
use Rattle.image.specs.declared.WriteFault.{WriteFault}

abbrev pub read_fault_number : ReadFault → ℕ
read_fault_number ReadFault.WrongForm = 1
read_fault_number ReadFault.Short = 2
read_fault_number ReadFault.TooHigh = 3
read_fault_number ReadFault.NumberZero = 4
read_fault_number ReadFault.Twice = 5
read_fault_number ReadFault.Padding = 7

-- the fault of an image one of whose cassettes has a fault
abbrev pub read_fault_of : CassetteFault → ReadFault
read_fault_of CassetteFault.NoCassette = ReadFault.NumberZero
read_fault_of CassetteFault.Twice = ReadFault.Twice

abbrev pub read_number : Result Unit ReadFault → ℕ
read_number = result_number read_fault_number

-- the numbers that a reading gives
abbrev pub ReadingGives : ℕ → Type 0
ReadingGives k = (k ≤ 5) ⊎ (k ≡ 7)

abbrev pub write_fault_number : WriteFault → ℕ
write_fault_number (WriteFault.StoreRefused f) = fault_number f
write_fault_number WriteFault.WrongForm = 1
write_fault_number WriteFault.CannotHold = 18
write_fault_number WriteFault.NoRoom = 10

abbrev pub write_number : Result ℕ WriteFault → ℕ
write_number = result_number write_fault_number
