-- The numbers that a store value can be refused with (document 01, "Refused because of the input"; request 3/13): 12, 3, 4 and 5.
use mathlib.Core.Bool.{not}
use mathlib.Core.List.{List}
use Prim.Native.Nat.{ℕ, zero, suc}
use lib.Dec.{ltb}
use Rattle.marks.proofs.Faulted.{first_either, given_either}
use Rattle.marks.proofs.Takes.{cassette_either}
use Rattle.rows.specs.Rows.{rows_fault}
use Rattle.store.specs.declared.Store.{Store}
use Rattle.store.specs.Slots.{depth, height}
use Rattle.store.specs.Accept.{in_place, shafts_fault, store_fault}

-- what holds of each of the numbers, and of none, holds of the fault
module _ (P : ℕ → Type 0) (none : P 0) (three : P 3) (four : P 4) (five : P 5) where
  rows_either : (before slots : List ℕ) (x k : ℕ) → P (rows_fault before slots x k)
  unfolding rows_fault
  rows_either before slots x zero = none
  rows_either before slots x (suc k) = first_either P _ _ (rows_either before slots x k) (cassette_either _ _ P none four five)

  shafts_either : (s : Store) (x : ℕ) → P (shafts_fault s x)
  unfolding shafts_fault
  shafts_either s zero = none
  shafts_either s (suc x) =
      first_either P _ _ (shafts_either s x)
      (first_either P _ _ (given_either P (ltb (depth s x) (height s x)) 3 none three) (rows_either _ s.slots x (height s x)))

  pub fault_either : P 12 → (s : Store) → P (store_fault s)
  unfolding store_fault
  fault_either twelve s = first_either P _ _ (given_either P (not (in_place s)) 12 none twelve) (shafts_either s s.m)
