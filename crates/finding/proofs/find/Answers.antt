-- `find` meets its contract.
use borrow.Author.Count.{below_more}
use native.Mathlib.Omega.{arith}
use Rattle.finding.proofs.FindLaws.{nowhere}
use Rattle.finding.proofs.find.Goals as goal

pub returns-else-stands : goal.returns-else-stands
returns-else-stands c =
    let a = c.args in
    nowhere a.f a.work.now.heights a.work.now.slots a.done.now a.v c.requires
    (λ q h. below_more _ _ c.loop-p.invariant
    (λ s. c.stands.ensures.not_so c.if-stands.false (rw (c.spot_at-at.ensures.0, c.spot_at-at.ensures.1) s)) q (omega arith))
