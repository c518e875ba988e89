-- No two ends of a log have the same number: each is the only one with its own.
use mathlib.Core.Path.{◌≡◌, refl}
use Prim.Native.Nat.{ℕ}
use Rattle.lifts.specs.Numbers.{Only}
use Rattle.replay.specs.declared.End.{End}
use Rattle.replay.proofs.Ends.{run_told, only_run}
use Rattle.entries.specs.declared.Untrue.{Untrue}
use Rattle.entries.specs.declared.Untrue.TheVariants.{Malformed, ShaftEmpty, ShaftFull, WrongNumber}
use Rattle.entries.specs.Numbers.{untrue_number}
use Rattle.entries.proofs.Numbered.{untrue_told}
use Rattle.logs.specs.Numbers.{log_end_number}

pub only_end : {k : ℕ} {e : End Untrue} → log_end_number e ≡ k → Only log_end_number k e
unfolding run_told untrue_told
only_end = only_run untrue_number untrue_told stopped
  where
    stopped : (u : Untrue) → run_told untrue_told (untrue_number u) ≡ End.Stopped u
    stopped Malformed = refl
    stopped ShaftEmpty = refl
    stopped ShaftFull = refl
    stopped WrongNumber = refl
