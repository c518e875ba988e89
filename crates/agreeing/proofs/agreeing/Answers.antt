-- `agreeing` meets its contract.
use Rattle.agreeing.proofs.AgreeLaws.{all_compared}
use Rattle.agreeing.proofs.agreeing.Goals as goal

pub returns : goal.returns
returns c =
    let a = c.args in
    all_compared a.start.now.heights a.start.now.slots a.goal.now.heights a.goal.now.slots a.f c.loop-x.done c.loop-x.x c.loop-x-test.false c.loop-x.invariant
