-- `restore` meets its contract.
use Rattle.rounds.proofs.Playing.{seek_ready, restored_there, restore_place, restored}
use Rattle.rounds.proofs.restore.Goals as goal

pub seek-at-requires : goal.seek-at-requires
seek-at-requires c =
    let p = seek_ready c.requires.on_the_way c.requires.can_restore _ c.next-v.ensures in
    record { fits = p.0; somewhere = p.1 }

pub returns-then-at-shaft : goal.returns-then-at-shaft
returns-then-at-shaft c = restored_there c.requires.on_the_way c.requires.can_restore _ c.next-v.ensures _ c.seek-at.ensures _ _ c.if-at-shaft.true

pub place-requires : goal.place-requires
place-requires c =
    let p = restore_place c.requires.on_the_way c.requires.can_restore _ c.next-v.ensures _ c.seek-at.ensures c.if-at-shaft.false _ c.args.out.now c.requires.f_in_bounds in
    record { held = p.0; can_place = p.1.0; row_in_bounds = p.1.1 }

pub returns : goal.returns
returns c = restored c.requires.on_the_way c.requires.can_restore _ c.next-v.ensures _ c.seek-at.ensures c.if-at-shaft.false c.place.ensures
