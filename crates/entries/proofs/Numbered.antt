-- No two results of an entry have the same number: each is the only one with its own.
use mathlib.Core.Bool.{cond}
use mathlib.Core.Path.{◌≡◌, refl}
use Prim.Native.Nat.{ℕ}
use native.Mathlib.Omega.{arith}
use lib.Dec.{eqb}
use Rattle.std.specs.Prelude.{Result}
use Rattle.lifts.specs.Numbers.{Only}
use Rattle.lifts.proofs.Numbered.{only_result}
use Rattle.entries.specs.declared.Untrue.{Untrue}
use Rattle.entries.specs.declared.Untrue.TheVariants.{Malformed, ShaftEmpty, ShaftFull, WrongNumber}
use Rattle.entries.specs.Numbers.{untrue_number, truth_number}

-- why an entry can't be true, told from its number
unfoldable pub untrue_told : ℕ → Untrue
untrue_told k = cond (eqb k 19) Malformed (cond (eqb k 13) ShaftEmpty (cond (eqb k 14) ShaftFull WrongNumber))

pub untrue_each : (u : Untrue) → untrue_told (untrue_number u) ≡ u
unfolding untrue_told
untrue_each Malformed = refl
untrue_each ShaftEmpty = refl
untrue_each ShaftFull = refl
untrue_each WrongNumber = refl

pub untrue_one : (u : Untrue) → untrue_number u ≡ 0 → ⊥
untrue_one Malformed e = omega arith
untrue_one ShaftEmpty e = omega arith
untrue_one ShaftFull e = omega arith
untrue_one WrongNumber e = omega arith

pub only_truth : {k : ℕ} {r : Result Unit Untrue} → truth_number r ≡ k → Only truth_number k r
only_truth = only_result untrue_told untrue_each untrue_one
