-- `follow_entry` meets its contract: an entry that can't be true changes nothing, and of the others a lift is made in place.
use mathlib.Core.Path.{sym, ◌∙◌}
use Rattle.store.proofs.Lifting.{can_carry, carried_store}
use Rattle.entries.proofs.Comparing.{none_true_lem, after_lift_lem, after_sighting}
use Rattle.entries.proofs.Following.{entry_goes}
use Rattle.entries.proofs.follow_entry.Goals as goal

pub carry-requires : goal.carry-requires
carry-requires c = can_carry c.args.s.now _ _ c.requires ((none_true_lem c.args.s.now _ (sym c.in_ok-compare.ensures.has)).allowed c.if-e-eq0.true)

pub returns-then-e-eq0 : goal.returns-then-e-eq0
returns-then-e-eq0 c =
    let s = c.args.s.now in
    let k = c.carry.ensures in
    entry_goes s _ c.in_ok-compare.ensures (sym c.in_ok-compare.ensures.has) (carried_store s _ _ k.heights_are k.slots_are ∙ sym (after_lift_lem s _ c.if-e-eq0.true))

pub returns-else-e-eq0 : goal.returns-else-e-eq0
returns-else-e-eq0 c = entry_goes c.args.s.now _ c.in_ok-compare.ensures (sym c.in_ok-compare.ensures.has) (sym (after_sighting c.args.s.now _ c.if-e-eq0.false))
