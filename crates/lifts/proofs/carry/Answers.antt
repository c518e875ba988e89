-- `carry` meets its contract: the top slot of the one shaft is emptied and the slot above the top of the other is filled.
use mathlib.Core.Path.{refl}
use Rattle.lifts.proofs.Moving.{carried}
use Rattle.lifts.proofs.carry.Goals as goal

pub returns : goal.returns
returns c =
    carried c.args.heights.now c.args.slots.now c.args.from.0 c.args.to.0 _ c.requires c.slot_at-cassette.ensures refl
