-- The tests say whether lists and stores are equal and whether the rule holds; so for comparable stores "reachable" is decided.
use mathlib.Core.Bool.{Bool, true}
use mathlib.Core.List.{List}
use mathlib.Core.Logic.{◌⊎◌}
use mathlib.Core.Path.{◌≡◌, refl, subst}
use Prim.Native.Nat.{ℕ, zero, suc}
use Rattle.store.specs.declared.Store.{Store}
use Rattle.store.specs.Slots.{upward}
use Rattle.in_place.specs.InPlace.{all_below}
use Rattle.store.specs.Lists.{Reachable}
use Rattle.marks.proofs.Faulted.{both_true}
use Rattle.in_place.proofs.AllBelow.{all_true, all_of}
use Rattle.stacks.specs.Deciding.{Decides}
use Rattle.reach.specs.Pairs.{same_list, same_frame, Comparable}
use Rattle.reach.specs.Rules.{two_shaft_reading, floor, RuleFor, Rule}
use Rattle.reach.specs.Tests.{same_store, same_floor, rule_test_for, rule_test}
use Rattle.stacks.proofs.Deciding.{decides_as, decides_by, decided}
use Rattle.reach.proofs.Sets.{same_list_lem, list_same, list_equal, frame_same, same_frame_lem}
use Rattle.reach.proofs.Reachability.{reachable_rule, reachable_exactly}

pub list_test : (l r : List ℕ) → Decides (same_list l r) (l ≡ r)
list_test l r = decides_by (same_list l r) (same_list_lem l r) (list_equal l r)

same_store_lem : (s t : Store) → same_store s t ≡ true → s ≡ t
unfolding same_store
same_store_lem s t e =
    let p = both_true (same_frame s t) _ e in
    let f = same_frame_lem s t p.0 in
    let g = both_true (same_list s.heights t.heights) _ p.1 in
    let c = same_list_lem s.heights t.heights g.0 in
    let d = same_list_lem s.slots t.slots g.1 in
    λ i. record { m = f.shafts i; depths = f.depths i; heights = c i; slots = d i }

store_same : (s : Store) → same_store s s ≡ true
unfolding same_store
store_same s = simp (frame_same s s (record { shafts = refl; depths = refl }), list_same s.heights, list_same s.slots)

pub store_test : (s t : Store) → Decides (same_store s t) (s ≡ t)
store_test s t = decides_by (same_store s t) (same_store_lem s t) (λ e. subst (λ (u : Store). same_store s u ≡ true) e (store_same s))

module _ (s t : Store) where
  rule_for : (m : ℕ) → Decides (rule_test_for m s t) (RuleFor m s t)
  unfolding same_floor
  rule_for zero = store_test s t
  rule_for (suc zero) = store_test s t
  rule_for (suc (suc zero)) = list_test (two_shaft_reading s) (two_shaft_reading t)
  rule_for (suc (suc (suc k))) =
      decides_by (all_below s.m (same_floor s t))
      (λ e x h. same_list_lem (upward s x (floor s x)) (upward t x (floor s x)) (all_true s.m (same_floor s t) e x h))
      (λ r. all_of s.m (same_floor s t) (λ x h. list_equal (upward s x (floor s x)) (upward t x (floor s x)) (r x h)))

  pub rule_test_lem : Decides (rule_test s t) (Rule s t)
  unfolding rule_test
  rule_test_lem = rule_for s.m

  -- for comparable stores a test of the rule says whether the goal can be reached
  module _ (p : Comparable s t) where
    pub by_rule : {b : Bool} → Decides b (Rule s t) → Decides b (Reachable s t)
    by_rule = decides_as (reachable_exactly s t p).1 (reachable_rule s t p)

    pub reachable_test : Decides (rule_test s t) (Reachable s t)
    reachable_test = by_rule rule_test_lem

    pub reachable_decided : Reachable s t ⊎ (Reachable s t → ⊥)
    reachable_decided = decided (rule_test s t) reachable_test
