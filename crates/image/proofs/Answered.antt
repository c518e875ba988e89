-- No two faults of reading have the same number, and no two of writing: each is the only one with its own.
use mathlib.Core.Bool.{cond}
use mathlib.Core.List.{[], ◌∷◌}
use mathlib.Core.Path.{◌≡◌, refl, ap, ◌∙◌}
use Prim.Native.Nat.{ℕ}
use native.Mathlib.Omega.{arith}
use lib.Dec.{eqb}
use lib.ListN.{get_or}
use Rattle.std.specs.Prelude.{Result, Ok, Err}
use Rattle.lifts.specs.Numbers.{Only, OnlyError, ResultIs}
use Rattle.lifts.proofs.Numbered.{only_by, only_error, only_result}
use Rattle.store.specs.declared.Fault.{Fault}
use Rattle.store.specs.Numbers.{fault_number}
use Rattle.store.proofs.Checks.{fault_one}
use Rattle.store.proofs.Numbered.{told}
use Rattle.image.specs.declared.ReadFault.{ReadFault}
use Rattle.image.specs.declared.WriteFault.{WriteFault}
use Rattle.image.specs.Numbers.{read_fault_number, read_number, write_fault_number}

read_told : ℕ → ReadFault
read_told k =
    get_or (ReadFault.WrongForm ∷ ReadFault.WrongForm ∷ ReadFault.Short ∷ ReadFault.TooHigh
    ∷ ReadFault.NumberZero ∷ ReadFault.Twice ∷ []) k ReadFault.Padding

read_told_lem : (f : ReadFault) → read_told (read_fault_number f) ≡ f
unfolding read_told
read_told_lem ReadFault.WrongForm = refl
read_told_lem ReadFault.Short = refl
read_told_lem ReadFault.TooHigh = refl
read_told_lem ReadFault.NumberZero = refl
read_told_lem ReadFault.Twice = refl
read_told_lem ReadFault.Padding = refl

pub read_one : (f : ReadFault) → read_fault_number f ≡ 0 → ⊥
read_one ReadFault.WrongForm e = omega arith
read_one ReadFault.Short e = omega arith
read_one ReadFault.TooHigh e = omega arith
read_one ReadFault.NumberZero e = omega arith
read_one ReadFault.Twice e = omega arith
read_one ReadFault.Padding e = omega arith

pub only_read : {k : ℕ} {r : Result Unit ReadFault} → read_number r ≡ k → Only read_number k r
only_read = only_result read_told read_told_lem read_one

-- 1 and 18 are a form's, the others the store's, and 10
write_told : ℕ → WriteFault
write_told k =
    cond (eqb k 1) WriteFault.WrongForm (cond (eqb k 18) WriteFault.CannotHold (told WriteFault.NoRoom WriteFault.StoreRefused (λ r. WriteFault.NoRoom) k))

write_told_lem : (f : WriteFault) → write_told (write_fault_number f) ≡ f
unfolding write_told told
write_told_lem WriteFault.WrongForm = refl
write_told_lem WriteFault.CannotHold = refl
write_told_lem WriteFault.NoRoom = refl
write_told_lem (WriteFault.StoreRefused f) = by_fault f
  where
    by_fault : (f : Fault) → write_told (fault_number f) ≡ WriteFault.StoreRefused f
    by_fault Fault.OutOfPlace = refl
    by_fault Fault.TooHigh = refl
    by_fault Fault.NoCassette = refl
    by_fault Fault.Twice = refl

pub write_one : (f : WriteFault) → write_fault_number f ≡ 0 → ⊥
write_one (WriteFault.StoreRefused f) e = fault_one f e
write_one WriteFault.WrongForm e = omega arith
write_one WriteFault.CannotHold e = omega arith
write_one WriteFault.NoRoom e = omega arith

pub only_write : {k : ℕ} {f : WriteFault} → write_fault_number f ≡ k → OnlyError write_fault_number k f
only_write e = only_error write_one (only_by write_told write_told_lem e)

-- where nothing is refused, there is a count
pub counted : {k n : ℕ} (r : Result ℕ WriteFault) → ResultIs write_fault_number k (λ count. count ≡ n) r → k ≡ 0 → r ≡ Ok n
counted (Ok m) p e = ap Ok p.1.0
counted (Err f) p e = absurd (write_one f (p.has ∙ e))
