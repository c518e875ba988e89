-- The fault of a store by its parts: 12, then the walk over the shafts.
use mathlib.Core.Bool.{true, false}
use mathlib.Core.Path.{◌≡◌}
use Rattle.store.specs.declared.Store.{Store}
use Rattle.store.specs.Accept.{in_place, shafts_fault, store_fault}

module _ (s : Store) where
  pub out_of_place : in_place s ≡ false → store_fault s ≡ 12
  unfolding store_fault
  out_of_place e = simp e

  pub by_shafts : in_place s ≡ true → store_fault s ≡ shafts_fault s s.m
  unfolding store_fault
  by_shafts e = simp e
