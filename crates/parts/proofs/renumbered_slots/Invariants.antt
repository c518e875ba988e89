-- `renumbered_slots` meets its contract. The invariant: the places passed have their values.
use Prim.Native.Nat.{ℕ, suc, ◌/◌, ◌%◌}
use lib.ListN.{get_or}
use Rattle.lifts.specs.Lifting.{slot_count, shown}
use Rattle.parts.proofs.Tabulated.{FilledTo}
use Rattle.parts.proofs.renumbered_slots.Given as goal

abbrev pub invariant-loop-p : goal.invariant-loop-p
invariant-loop-p l = FilledTo (λ (q : ℕ). shown l.slots (get_or l.names (q / 16) 0) (suc (q % 16))) slot_count l.out l.p
