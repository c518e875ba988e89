-- `play_all` meets its contract.
use Rattle.rounds.proofs.Arriving.{rounding_first, choose_ready, play_ready, rounding_next, all_passed}
use Rattle.rounds.proofs.play_all.Goals as goal

pub loop-f-init : goal.loop-f-init
loop-f-init c = rounding_first _ c.requires.on_the_way

pub choose-r-requires : goal.choose-r-requires
choose-r-requires c =
    let p = choose_ready c.loop-f.invariant (c.finished.ensures.not_so c.loop-f-test.true) in
    record { fits = p.0; fits_2 = p.1.0; some_round = p.1.1 }

pub play-count-requires : goal.play-count-requires
play-count-requires c =
    let p = play_ready c.loop-f.invariant c.requires.f_in_bounds c.choose-r.ensures in
    record { on_the_way = p.0; round_for = p.1.0; f_in_bounds = p.1.1 }

pub loop-f-smaller : goal.loop-f-smaller
loop-f-smaller c = (rounding_next c.loop-f.invariant c.requires.f_in_bounds c.choose-r.ensures c.play-count.ensures).1

pub loop-f-preserved : goal.loop-f-preserved
loop-f-preserved c = (rounding_next c.loop-f.invariant c.requires.f_in_bounds c.choose-r.ensures c.play-count.ensures).0

pub returns : goal.returns
returns c = all_passed c.loop-f.invariant (c.finished.ensures.so c.loop-f-test.false)
