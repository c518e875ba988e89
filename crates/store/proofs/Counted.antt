-- The cassettes of a store, counted (document 01, "The store": "n is the count of cassettes"): shaft by shaft, so that the heights add up to n; and number by
-- number.
use mathlib.Core.List.{List, [], ◌++◌}
use mathlib.Core.Path.{◌≡◌, refl, sym}
use Prim.Native.Nat.{ℕ, ◌+◌}
use lib.ListN.{length, length-append}
use Rattle.stacks.specs.Count.{sum, count}
use Rattle.stacks.proofs.Counts.{same_length, joined_adds}
use Rattle.rows.proofs.Upward.{rows_length}
use Rattle.store.specs.declared.Store.{Store}
use Rattle.store.specs.Slots.{height, upward, cassettes_below, cassettes, cassette_count}

-- what adds up over lists adds up over the cassettes, shaft by shaft
pub cassettes_added : (s : Store) (f : List ℕ → ℕ) → f [] ≡ 0 → ((l r : List ℕ) → f (l ++ r) ≡ f l + f r) → f (cassettes s) ≡ sum s.m (λ i. f (upward s i (height s i)))
unfolding cassettes_below cassettes
cassettes_added s f none more = joined_adds f none more (λ i. upward s i (height s i)) (cassettes_below s) refl (λ x. refl) s.m

-- the heights of the shafts add up to the count of cassettes
pub heights_counted : (s : Store) → sum s.m (height s) ≡ cassette_count s
unfolding cassette_count
heights_counted s = sym (simp rows_length at (cassettes_added s length refl length-append))

-- stores in which each number stands equally often hold equally many cassettes
pub same_count : (s t : Store) → ((c : ℕ) → count c (cassettes s) ≡ count c (cassettes t)) → cassette_count s ≡ cassette_count t
unfolding cassette_count
same_count s t = same_length (cassettes s) (cassettes t)
