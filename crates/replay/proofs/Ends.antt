-- No two ends of a run have the same number, where no refusal of a step has a number of the store's or another's: each is the only one with its own.
use mathlib.Core.Bool.{cond}
use Rattle.std.proofs.Common.{◌≡◌, ℕ, refl, eqb}
use Rattle.lifts.specs.declared.Refusal.{Refusal}
use Rattle.lifts.specs.declared.Refusal.TheVariants.{Shafts, Empty, Full}
use Rattle.lifts.specs.Numbers.{Only, refusal_number}
use Rattle.lifts.proofs.Numbered.{only_by}
use Rattle.store.specs.declared.Fault.TheVariants.{OutOfPlace, TooHigh, NoCassette, Twice}
use Rattle.replay.specs.declared.End.{End}
use Rattle.replay.specs.Numbers.{run_number, end_number}

-- an end told from its number: what is no number of the store's is told by `step`
unfoldable pub run_told : {R : Type 0} → (ℕ → R) → ℕ → End R
run_told step k =
    cond (eqb k 0) End.RunThrough
    (cond (eqb k 12) (End.StoreRefused OutOfPlace)
    (cond (eqb k 3) (End.StoreRefused TooHigh) (cond (eqb k 4) (End.StoreRefused NoCassette) (cond (eqb k 5) (End.StoreRefused Twice) (End.Stopped (step k))))))

pub only_run : {R : Type 0} (number : R → ℕ) (step : ℕ → R) → ((r : R) → run_told step (number r) ≡ End.Stopped r) → {k : ℕ} {e : End R} → run_number number e ≡ k
    → Only (run_number number) k e
unfolding run_told
only_run {R} number step stopped = only_by (run_told step) each
  where
    each : (e : End R) → run_told step (run_number number e) ≡ e
    each End.RunThrough = refl
    each (End.Stopped r) = stopped r
    each (End.StoreRefused OutOfPlace) = refl
    each (End.StoreRefused TooHigh) = refl
    each (End.StoreRefused NoCassette) = refl
    each (End.StoreRefused Twice) = refl

pub only_end : {k : ℕ} {e : End Refusal} → end_number e ≡ k → Only end_number k e
unfolding run_told
only_end = only_run refusal_number (λ k. cond (eqb k 11) Shafts (cond (eqb k 13) Empty Full)) stopped
  where
    stopped : (r : Refusal) → run_told (λ k. cond (eqb k 11) Shafts (cond (eqb k 13) Empty Full)) (refusal_number r) ≡ End.Stopped r
    stopped Shafts = refl
    stopped Empty = refl
    stopped Full = refl
