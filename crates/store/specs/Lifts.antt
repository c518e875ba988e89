-- One lift of a store (document 000, Definition 3.2; document 01, "The store"): when it is allowed, and the store after it.
use Rattle.std.specs.Prelude.{◌≡◌, ℕ, zero, suc, ◌<◌}
use Rattle.marks.specs.Cassettes.{first}
use Rattle.lifts.specs.Lifting.{refusal_by, heights_after, slots_after}
use Rattle.store.specs.declared.Store.{Store}
use Rattle.store.specs.Slots.{depth, height}
use Rattle.store.specs.Accept.{store_fault}

-- "It is legal exactly if the first shaft isn't empty, the second isn't full and the two differ."
pub record Allowed (s : Store) (a b : ℕ) : Type 0 where
  pub left_below : a < s.m
  pub entered_below : b < s.m
  pub differ : a ≡ b → ⊥
  pub taken : 0 < height s a
  pub room : height s b < depth s b

unfoldable pub lift_refusal : Store → ℕ → ℕ → ℕ
lift_refusal s a b = refusal_by s.m (depth s b) a b (height s a) (height s b)

-- the store after a lift from a to b
unfoldable pub lifted : Store → ℕ → ℕ → Store
lifted s a b = record { m = s.m; depths = s.depths; heights = heights_after s.heights a b; slots = slots_after s.heights s.slots a b }

-- "For a lift: the store, 11, 13, 14."
unfoldable pub lift_number : Store → ℕ → ℕ → ℕ
unfolding store_fault lift_refusal
lift_number s a b = first (store_fault s) (lift_refusal s a b)

-- "A refused single lift also hands its store back unchanged"
abbrev pub when_none : ℕ → Store → Store → Store
when_none zero t s = t
when_none (suc k) t s = s

unfoldable pub after_lift : Store → ℕ → ℕ → Store
unfolding lift_number lifted
after_lift s a b = when_none (lift_number s a b) (lifted s a b) s
