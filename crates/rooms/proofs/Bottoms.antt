-- The lowest rows of a shaft are the bottom part of its stack; and the frame, the lifts and the heights of a store that is lent apart, in the stack view.
use mathlib.Core.List.{List, [], ◌∷◌}
use mathlib.Core.Path.{◌≡◌, refl, sym, ap, fun_ext}
use Prim.Native.Nat.{ℕ, zero, suc, ◌+◌, ◌-◌, ◌≤◌, ◌<◌}
use native.Mathlib.Decide.{ℕ_discrete}
use native.Mathlib.Omega.{arith}
use lib.ListN.{length}
use Rattle.stacks.specs.Run.{Usable}
use Rattle.stacks.specs.Count.{total}
use Rattle.stacks.specs.Placing.{Onto, heights_of}
use Rattle.stacks.proofs.Bottoms.{onto_same, onto_then}
use Rattle.stacks.proofs.RoundLaws.{Legal}
use Rattle.stacks.proofs.Sums.{sum_le_outside}
use Rattle.store.specs.declared.Store.{Store}
use Rattle.store.specs.Slots.{depth, height, slot, downward, stack}
use Rattle.rows.specs.Rows.{rows_down}
use Rattle.store.specs.Sound.{Shaped}
use Rattle.store.specs.Lifts.{Allowed}
use Rattle.store.proofs.Rows.{stack_length}
use Rattle.reach.proofs.Agree.{shaped_within}
use Rattle.rooms.specs.declared.Frame.{Frame}
use Rattle.lifts.specs.Lifting.{height_in}
use Rattle.rooms.specs.Frames.{store_of, depth_in, Fits, Held}

module _ (s : Store) (x : ℕ) where
  pub rows_onto : (n k : ℕ) → k ≤ n → Onto (downward s x k) (downward s x n)
  unfolding rows_down
  rows_onto zero k h = let e : k ≡ 0 = omega arith in onto_same (ap (downward s x) (sym e))
  rows_onto (suc n) k h =
      elim (ℕ_discrete k (suc n)) [
        | yes e ↦ onto_same (ap (downward s x) (sym e))
        | no e ↦ onto_then (rows_onto n k (omega arith)) (record { above = slot s x (suc n) ∷ []; split = refl })
      ]

  pub stack_onto : (k : ℕ) → k ≤ height s x → Onto (downward s x k) (stack s x)
  unfolding stack
  stack_onto k h = rows_onto (height s x) k h

  -- a row and the rows under it
  pub row_onto : (y : ℕ) → 0 < y → y ≤ height s x → Onto (slot s x y ∷ downward s x (y - 1)) (stack s x)
  unfolding rows_down
  row_onto zero p h = absurd (omega arith)
  row_onto (suc k) p h = let e : suc k - 1 ≡ k = omega arith in rw e (stack_onto (suc k) h)

-- a legal lift is an allowed one
pub legal_allowed : (s : Store) {a b : ℕ} → Legal s.m (depth s) (stack s) a b → Allowed s a b
legal_allowed s {a} {b} l =
    record {
      left_below = l.left;
      entered_below = l.entered;
      differ = l.differ;
      taken = rw stack_length at l.some;
      room = rw stack_length at l.room;
    }

module _ (f : Frame) (heights slots : List ℕ) where
  pub shaped_fits : Shaped (store_of f heights slots) → Fits f heights
  shaped_fits h = record { shafts = h.shafts; rows = h.rows; within = h.heights }

  pub heights_are : heights_of (stack (store_of f heights slots)) ≡ height_in heights
  heights_are = fun_ext (λ x. stack_length (store_of f heights slots) x)

  -- a shaft has no more room than the store
  pub one_room : Held f heights slots → (x : ℕ) → Usable f.m x → depth_in f x ≤ f.e + length (stack (store_of f heights slots) x)
  unfolding total
  one_room h x u =
      omega (arith, h.all, sum_le_outside f.m (λ i. length (stack (store_of f heights slots) i)) (depth_in f) x u (λ i p _. shaped_within (store_of f heights slots) h.shaped i p))
