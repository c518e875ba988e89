-- The rows of a shaft: that they show what a slot may show, and that the rows up to the height make the stack.
use mathlib.Core.List.{List, ◌∷◌}
use mathlib.Core.Path.{◌≡◌, refl, ap, subst}
use Prim.Native.Nat.{ℕ, zero, suc, ◌+◌, ◌*◌, ◌<◌}
use native.Mathlib.Decide.{dec_lt}
use native.Mathlib.Omega.{arith}
use lib.ListN.{length, get_or}
use Rattle.marks.specs.Cassettes.{numbers}
use Rattle.lifts.specs.Lifting.{shown, placed_at}
use Rattle.store.specs.declared.Store.{Store}
use Rattle.store.specs.Slots.{height, slot, downward, stack}
use Rattle.rows.specs.Rows.{rows_down}
use Rattle.store.proofs.Typed.{each_set}

-- what holds of 0 and of every number of the slots holds of what a row shows
pub row_each : (P : ℕ → Type 0) (l : List ℕ) (x n : ℕ) → P 0 → ((i : ℕ) → P (get_or l i 0)) → P (shown l x n)
unfolding shown
row_each P l x zero z b = z
row_each P l x (suc k) z b = b (16 * x + k)

-- and of slots of which one row is written
pub placed_each : (P : ℕ → Type 0) (l : List ℕ) (x n c : ℕ) → P c → ((i : ℕ) → P (get_or l i 0)) → (i : ℕ) → P (get_or (placed_at l x n c) i 0)
unfolding placed_at
placed_each P l x zero c h b = b
placed_each P l x (suc k) c h b = each_set P l (16 * x + k) c h b

pub slot_numbered : (s : Store) (x n : ℕ) → ((i : ℕ) → get_or s.slots i 0 < numbers) → slot s x n < numbers
slot_numbered s x n b = row_each (λ c. c < numbers) s.slots x n (omega arith) b

pub downward_length : (s : Store) (x n : ℕ) → length (downward s x n) ≡ n
unfolding rows_down
downward_length s x zero = refl
downward_length s x (suc n) = ap suc (downward_length s x n)

-- the stack of a shaft is as long as the shaft is high
pub stack_length : (s : Store) (x : ℕ) → length (stack s x) ≡ height s x
unfolding stack
stack_length s x = downward_length s x (height s x)

-- its first is the top cassette
pub stack_top : (s : Store) (x n : ℕ) → suc n ≡ height s x → stack s x ≡ slot s x (height s x) ∷ downward s x n
unfolding stack rows_down
stack_top s x n e = subst (λ k. downward s x k ≡ slot s x k ∷ downward s x n) e refl

-- rows that hold the same, read downward, are the same list
pub same_rows : (s t : Store) (x n : ℕ) → ((k : ℕ) → k < n → slot s x (suc k) ≡ slot t x (suc k)) → downward s x n ≡ downward t x n
unfolding rows_down
same_rows s t x zero e = refl
same_rows s t x (suc n) e = rw (same_rows s t x n (λ k h. e k (omega arith)), e n (omega arith))

-- and the same list read downward is the same row by row
pub rows_same : (s t : Store) (x n k : ℕ) → downward s x n ≡ downward t x n → k < n → slot s x (suc k) ≡ slot t x (suc k)
unfolding rows_down
rows_same s t x zero k e h = absurd (omega arith)
rows_same s t x (suc n) k e h =
    elim (dec_lt k n) [
      | yes i ↦ rows_same s t x n k (cc) i
      | no i ↦ (let u : k ≡ n = omega arith in rw u (cc))
    ]
