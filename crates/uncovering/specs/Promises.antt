-- What the functions promise, by the definitions.
use Rattle.std.specs.Prelude.{List, ◌≡◌, ℕ, ◌≤◌, ◌<◌, Result, Ok, Err}
use Rattle.lifts.specs.Lifting.{shown}
use Rattle.store.specs.declared.Store.{Store}
use Rattle.store.specs.Accept.{Accepted}
use Rattle.store.specs.Slots.{empty_count}
use Rattle.uncovering.specs.declared.Hidden.{Hidden}
use Rattle.uncovering.specs.declared.Hidden.TheVariants.{Absent, Buried}
use Rattle.uncovering.specs.Uncovering.{Stands, Uncovers, Fewest}

-- The store is accepted, and e is the count of its empty slots.
pub record Ready (s : Store) (e : ℕ) : Type 0 where
  pub accepted : Accepted s
  pub empty : e ≡ empty_count s

-- The answer for the number c in an accepted store.
abbrev pub UncoveringIs : Store → ℕ → Result ℕ Hidden → Type 0
UncoveringIs s c (Ok k) = Fewest s c k
UncoveringIs s c (Err Absent) = Stands s c → ⊥
UncoveringIs s c (Err Buried) = Stands s c × ((list : List ℕ) → Uncovers s c list → ⊥)

-- r is the highest of rows 1 to k of shaft x that shows c, 0 for none.
pub record TopRowIs (slots : List ℕ) (x k c r : ℕ) : Type 0 where
  pub within : r ≤ k
  pub shows : 0 < r → shown slots x r ≡ c
  pub none_above : (y : ℕ) → r < y → y ≤ k → shown slots x y ≡ c → ⊥
