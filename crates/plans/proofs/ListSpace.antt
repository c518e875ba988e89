-- The list space as the code counts it, and compares what is lent with it.
use borrow.Author.Tests.{ltb-true, lt-ltb}
use mathlib.Core.Path.{◌≡◌, ◌∙◌}
use Prim.Native.Nat.{ℕ, ◌≤◌, ◌<◌}
use native.Mathlib.Omega.{arith}
use lib.Dec.{ltb}
use Rattle.stacks.specs.Count.{greatest}
use Rattle.stacks.specs.Deciding.{Decides}
use Rattle.stacks.proofs.Deciding.{decides_by}
use Rattle.lifts.specs.Lifting.{slot_count}
use Rattle.depths.specs.Depths.{DepthsFit, space_for}
use Rattle.store.specs.declared.Store.{Store}
use Rattle.store.specs.Accept.{Accepted}
use Rattle.store.specs.Slots.{depth, deepest, cassette_count, list_space}
use Rattle.store.proofs.Acceptance.{accepted_sound, accepted_most}

-- an accepted store has few rows and few cassettes
pub accepted_bounds : (s : Store) → Accepted s → DepthsFit s.depths × (cassette_count s ≤ slot_count)
accepted_bounds s p = let a = accepted_sound s p in (a.shaped.rows, accepted_most s p)

-- the list space as the code counts it
pub space_counted : (s : Store) (n k : ℕ) → k ≡ space_for (greatest s.m (depth s)) n → n ≡ cassette_count s → k ≡ list_space s
unfolding list_space deepest
space_counted s n k f g = f ∙ rw g

-- a test whether a number is below k is one whether it is below what k is
pub below_decides : (j k l : ℕ) → k ≡ l → Decides (ltb j k) (j < l)
below_decides j k l e = decides_by (ltb j k) (λ t. omega (arith, ltb-true j k t)) (λ h. lt-ltb j k (omega arith))
