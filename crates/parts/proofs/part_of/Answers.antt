-- `part_of` meets its contract.
use Rattle.parts.proofs.ByNumber.{renumbered_part}
use Rattle.parts.proofs.part_of.Goals as goal

pub returns : goal.returns
returns c =
    renumbered_part _ _ _ c.numbering_of-numbering.ensures c.renumbered.ensures c.renumbered-2.ensures c.renumbered_slots.ensures
