-- Document 01's number, or document 02's, for each end of a log; 0 where all entries are true.
use Rattle.std.specs.Prelude.{ℕ}
use Rattle.replay.specs.declared.End.{End}
use Rattle.replay.specs.Numbers.{run_number}
use Rattle.entries.specs.declared.Untrue.{Untrue}
use Rattle.entries.specs.Numbers.{untrue_number}

abbrev pub log_end_number : End Untrue → ℕ
log_end_number = run_number untrue_number
