-- Document 01's number, or document 02's, for each way in which an entry can't be true; 0 where it can.
use Rattle.std.specs.Prelude.{ℕ, Result}
use Rattle.marks.specs.Taking.{result_number}
use Rattle.entries.specs.declared.Untrue.{Untrue}
use Rattle.entries.specs.declared.Untrue.TheVariants.{Malformed, ShaftEmpty, ShaftFull, WrongNumber}

abbrev pub untrue_number : Untrue → ℕ
untrue_number Malformed = 19
untrue_number ShaftEmpty = 13
untrue_number ShaftFull = 14
untrue_number WrongNumber = 20

abbrev pub truth_number : Result Unit Untrue → ℕ
truth_number = result_number untrue_number
