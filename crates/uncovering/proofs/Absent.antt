-- "the cassette isn't in the store (0 included)" (document 02, 1/13): an accepted store shows neither 0 nor a number that no slot can hold.
use Prim.Native.Nat.{ℕ, ◌≤◌}
use native.Mathlib.Omega.{arith}
use Rattle.marks.specs.Cassettes.{numbers}
use Rattle.store.specs.declared.Store.{Store}
use Rattle.store.specs.Accept.{Accepted}
use Rattle.store.proofs.Acceptance.{accepted_shaped, accepted_row}
use Rattle.store.proofs.Rows.{slot_numbered}
use Rattle.uncovering.specs.Uncovering.{Stands}

module _ (s : Store) (p : Accepted s) where
  pub zero_absent : Stands s 0 → ⊥
  zero_absent w = accepted_row s p w.shaft w.row w.from_one w.held w.shows

  pub past_absent : (c : ℕ) → numbers ≤ c → Stands s c → ⊥
  past_absent c h w = omega (arith, w.shows, slot_numbered s w.shaft w.row (accepted_shaped s p).numbered)
