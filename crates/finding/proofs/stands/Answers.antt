-- `stands` meets its contract.
use native.Mathlib.Omega.{arith}
use Rattle.finding.proofs.FindLaws.{slot_tested}
use Rattle.finding.proofs.stands.Goals as goal

pub returns-then-y-work : goal.returns-then-y-work
returns-then-y-work c =
    let a = c.args in
    slot_tested a.f a.work.now.heights a.work.now.slots a.done.now a.v a.at.shaft.0 a.at.row.0 (grind arith) (grind arith) (grind arith)
