-- `make_three` meets its contract.
use Rattle.store.proofs.Acceptance.{accepted_shaped}
use Rattle.making.proofs.Making.{fits_both, play_ready, made}
use Rattle.making.proofs.make_three.Goals as goal

pub agreeing-done-requires : goal.agreeing-done-requires
agreeing-done-requires c =
    let p = fits_both c.args.start c.args.goal c.requires.comparable _ in
    record { fits = p.0; fits_2 = p.1 }

pub hints_of-hints-requires : goal.hints_of-hints-requires
hints_of-hints-requires c = (accepted_shaped _ c.requires.comparable.start).shafts

pub play_all-requires : goal.play_all-requires
play_all-requires c =
    let p = play_ready c.args.start c.args.goal c.requires.comparable _ _ c.agreeing-done.ensures c.empty_slots-e.ensures c.requires.lt_m.0 c.requires.lt_m.1 c.args.out.now c.requires.start_in_bounds in
    record { on_the_way = p.0; f_in_bounds = p.1 }

pub returns : goal.returns
returns c = made c.args.start c.args.goal c.requires.comparable _ _ c.agreeing-done.ensures c.play_all.ensures
