-- `bring` meets its contract.
use Rattle.serving.proofs.Bringing.{place_ready, served}
use Rattle.serving.proofs.bring.Goals as goal

pub place-end-requires : goal.place-end-requires
place-end-requires c =
    let p = place_ready c.args.count c.args.out.now c.requires.to_in_bounds c.make_room-room.ensures in
    record { held = p.0; can_place = p.1.0; row_in_bounds = p.1.1 }

pub returns : goal.returns
returns c = served c.args.count c.args.out.now c.requires.to_in_bounds c.make_room-room.ensures c.place-end.ensures
