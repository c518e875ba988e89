-- The number of document 01 for each end of a replay; 0 where it ran through.
use Rattle.std.specs.Prelude.{ℕ}
use Rattle.lifts.specs.declared.Refusal.{Refusal}
use Rattle.lifts.specs.Numbers.{refusal_number}
use Rattle.store.specs.Numbers.{fault_number}
use Rattle.replay.specs.declared.End.{End}

-- of the end of any run, by the number of what refuses a step
abbrev pub run_number : {R : Type 0} → (R → ℕ) → End R → ℕ
run_number number End.RunThrough = 0
run_number number (End.Stopped r) = number r
run_number number (End.StoreRefused f) = fault_number f

abbrev pub end_number : End Refusal → ℕ
end_number = run_number refusal_number
