-- The slot view of a store and the stack view agree: the same counts, the same lowest rows, and with two shafts the same reading.
use mathlib.Core.List.{List, [], ◌∷◌, ◌++◌, append_assoc, append-nil, reverse, reverse_aux, reverse-reverse}
use mathlib.Core.Logic.{◌↔◌}
use mathlib.Core.Path.{◌≡◌, refl, sym, ap, ◌∙◌}
use Prim.Native.Nat.{ℕ, zero, suc, ◌+◌, ◌-◌, ◌≤◌}
use native.Mathlib.Omega.{arith}
use lib.ListN.{length, drop}
use Rattle.stacks.specs.Run.{Within}
use Rattle.stacks.specs.Count.{count, occurrences, total, empties, lowest}
use Rattle.stacks.specs.TwoStackReading.{two_stack_reading}
use Rattle.stacks.proofs.Counts.{count_append}
use Rattle.store.specs.declared.Store.{Store}
use Rattle.store.specs.Slots.{depth, height, slot, upward, downward, stack, cassettes, cassette_count, empty_count}
use Rattle.rows.specs.Rows.{rows_up, rows_down}
use Rattle.rows.proofs.Upward.{rows_count}
use Rattle.store.specs.Sound.{Shaped}
use Rattle.store.proofs.Counted.{cassettes_added, heights_counted}
use Rattle.store.proofs.Rows.{stack_length}
use Rattle.reach.specs.Rules.{two_shaft_reading, floor}

module _ (s : Store) where
  -- no stack of a shaped store passes its depth
  pub shaped_within : Shaped s → Within s.m (depth s) (stack s)
  shaped_within p x h = rw stack_length (p.heights x)

  -- rows read upward are the rows read downward in reverse
  upward_then : (x k : ℕ) (r : List ℕ) → upward s x k ++ r ≡ reverse_aux (downward s x k) r
  unfolding rows_up rows_down
  upward_then x zero r = refl
  upward_then x (suc k) r = append_assoc (upward s x k) (slot s x (suc k) ∷ []) r ∙ upward_then x k (slot s x (suc k) ∷ r)

  pub upward_reversed : (x k : ℕ) → upward s x k ≡ reverse (downward s x k)
  upward_reversed x k = sym (append-nil (upward s x k)) ∙ upward_then x k []

  -- the reading of document 01 is the reading of the stacks
  pub reading_agrees : two_shaft_reading s ≡ two_stack_reading (stack s)
  unfolding two_shaft_reading two_stack_reading stack
  reading_agrees = upward_then 0 (height s 0) (downward s 1 (height s 1))

  -- each number stands as often among the cassettes as in the stacks
  pub occurrences_agree : (c : ℕ) → occurrences s.m c (stack s) ≡ count c (cassettes s)
  unfolding occurrences stack count
  occurrences_agree c = sym (simp rows_count at (cassettes_added s (count c) refl (count_append c)))

  -- n and e are the numbers of cassettes and of empty slots of the stacks
  pub total_agrees : total s.m (stack s) ≡ cassette_count s
  unfolding total
  total_agrees = simp stack_length (heights_counted s)

  pub empties_agree : empties s.m (depth s) (stack s) ≡ empty_count s
  unfolding empties empty_count
  empties_agree = rw total_agrees

  -- the lowest k of a stack are rows 1 to k
  rows_under : (x j n k : ℕ) → n ≡ j + k → drop j (downward s x n) ≡ downward s x k
  unfolding rows_down
  rows_under x zero n k e = let e' : n ≡ k = omega arith in rw e'
  rows_under x (suc j) zero k e = absurd (omega arith)
  rows_under x (suc j) (suc n) k e = rows_under x j n k (omega arith)

  pub lowest_rows : (x k : ℕ) → k ≤ height s x → lowest k (stack s x) ≡ downward s x k
  unfolding lowest stack
  lowest_rows x k h = rows_under x (length (stack s x) - k) (height s x) k (omega (arith, stack_length s x))

  -- a floor is what the empty slots of the store leave of a shaft's depth
  pub floor_agrees : (x : ℕ) → depth s x - empties s.m (depth s) (stack s) ≡ floor s x
  unfolding floor
  floor_agrees x = rw empties_agree

  -- nothing stands in the shafts beyond m
  pub none_beyond : Shaped s → (x : ℕ) → s.m ≤ x → stack s x ≡ []
  unfolding stack rows_down
  none_beyond p x h = let none : height s x ≡ 0 = omega (arith, p.heights x, p.none_beyond x h) in rw none

-- rows 1 to k of two stores agree exactly if the lowest k of the stacks do
pub rows_agree : (s t : Store) (x k : ℕ) → k ≤ height s x → k ≤ height t x
    → (upward s x k ≡ upward t x k) ↔ (lowest k (stack s x) ≡ lowest k (stack t x))
rows_agree s t x k h i =
    simp (lowest_rows, upward_reversed)
    (λ e. sym (reverse-reverse (downward s x k)) ∙ ap reverse e ∙ reverse-reverse (downward t x k), λ e. ap reverse e)
