-- No two cases of an answer have the same number: each is the only one with its own.
use mathlib.Core.Bool.{cond}
use mathlib.Core.Path.{◌≡◌, refl}
use Prim.Native.Nat.{ℕ}
use lib.Dec.{eqb}
use Rattle.lifts.specs.declared.Refusal.{Refusal}
use Rattle.lifts.specs.declared.Refusal.TheVariants.{Shafts, Empty, Full}
use Rattle.std.specs.Prelude.{Result}
use Rattle.lifts.specs.Numbers.{Only, OnlyError, refusal_number}
use Rattle.lifts.proofs.Numbered.{only_by, only_error, only_result, refusal_one}
use Rattle.store.specs.declared.Fault.{Fault}
use Rattle.store.specs.declared.Fault.TheVariants.{OutOfPlace, TooHigh, NoCassette, Twice}
use Rattle.store.specs.declared.LiftFault.{LiftFault}
use Rattle.store.specs.declared.LiftFault.TheVariants.{StoreRefused, LiftRefused}
use Rattle.store.specs.Numbers.{fault_number, verdict_number, lift_fault_number, answer_number}
use Rattle.store.proofs.Checks.{fault_one}

-- An answer told from its number: nothing refused, a fault of the store, or a refusal of the lift.
module _ {A : Type 0} (none : A) (store : Fault → A) (lift : Refusal → A) where
  unfoldable pub told : ℕ → A
  told k =
      cond (eqb k 0) none
      (cond (eqb k 12) (store OutOfPlace)
      (cond (eqb k 3) (store TooHigh)
      (cond (eqb k 4) (store NoCassette)
      (cond (eqb k 5) (store Twice)
      (cond (eqb k 11) (lift Shafts) (cond (eqb k 13) (lift Empty) (lift Full)))))))

  pub told_none : told 0 ≡ none
  unfolding told
  told_none = refl

  pub told_store : (f : Fault) → told (fault_number f) ≡ store f
  unfolding told
  told_store OutOfPlace = refl
  told_store TooHigh = refl
  told_store NoCassette = refl
  told_store Twice = refl

  pub told_lift : (r : Refusal) → told (refusal_number r) ≡ lift r
  unfolding told
  told_lift Shafts = refl
  told_lift Empty = refl
  told_lift Full = refl

fault_told : ℕ → Fault
fault_told = told OutOfPlace (λ f. f) (λ r. OutOfPlace)

fault_each : (f : Fault) → fault_told (fault_number f) ≡ f
unfolding fault_told
fault_each = told_store _ _ _

pub only_fault : {k : ℕ} {f : Fault} → fault_number f ≡ k → OnlyError fault_number k f
only_fault e = only_error fault_one (only_by fault_told fault_each e)

pub only_verdict : {k : ℕ} {r : Result Unit Fault} → verdict_number r ≡ k → Only verdict_number k r
only_verdict = only_result fault_told fault_each fault_one

lift_fault_told : ℕ → LiftFault
lift_fault_told = told (StoreRefused OutOfPlace) StoreRefused LiftRefused

lift_fault_each : (f : LiftFault) → lift_fault_told (lift_fault_number f) ≡ f
unfolding lift_fault_told
lift_fault_each (StoreRefused f) = told_store _ _ _ f
lift_fault_each (LiftRefused r) = told_lift _ _ _ r

lift_fault_one : (f : LiftFault) → lift_fault_number f ≡ 0 → ⊥
lift_fault_one (StoreRefused f) = fault_one f
lift_fault_one (LiftRefused r) = refusal_one r

pub only_answer : {k : ℕ} {r : Result Unit LiftFault} → answer_number r ≡ k → Only answer_number k r
only_answer = only_result lift_fault_told lift_fault_each lift_fault_one
