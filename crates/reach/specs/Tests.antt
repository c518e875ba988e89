-- Equality of stores, and the rules of document 01, "Which goals can be reached", each as a test that can be computed.
use Rattle.std.specs.Prelude.{Bool, ◌&&◌, ℕ, zero, suc}
use Rattle.store.specs.declared.Store.{Store}
use Rattle.store.specs.Slots.{upward}
use Rattle.in_place.specs.InPlace.{all_below}
use Rattle.reach.specs.Pairs.{same_list, same_frame}
use Rattle.reach.specs.Rules.{two_shaft_reading, floor}

unfoldable pub same_store : Store → Store → Bool
unfolding same_list same_frame
same_store s t = same_frame s t && (same_list s.heights t.heights && same_list s.slots t.slots)

-- shaft x has the same floor
unfoldable pub same_floor : Store → Store → ℕ → Bool
unfolding same_list
same_floor s t x = same_list (upward s x (floor s x)) (upward t x (floor s x))

abbrev pub rule_test_for : ℕ → Store → Store → Bool
rule_test_for zero s t = same_store s t
rule_test_for (suc zero) s t = same_store s t
rule_test_for (suc (suc zero)) s t = same_list (two_shaft_reading s) (two_shaft_reading t)
rule_test_for (suc (suc (suc k))) s t = all_below s.m (same_floor s t)

-- whether the rule for this many shafts holds
unfoldable pub rule_test : Store → Store → Bool
unfolding same_store same_floor
rule_test s t = rule_test_for s.m s t
