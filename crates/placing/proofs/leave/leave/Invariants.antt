-- `leave` meets its contract.
use Rattle.lifts.specs.Lifting.{height_in}
use Rattle.placing.proofs.Leaving.{Leaving}
use Rattle.placing.proofs.leave.leave.Given as goal

abbrev pub invariant-loop-work : goal.invariant-loop-work
invariant-loop-work l = Leaving l.f l.initial.work.heights l.initial.work.slots l.from.shaft.0 l.from.row.0 l.count l.initial.out l.work.heights l.work.slots l.n l.out

abbrev pub decreases-loop-work : goal.decreases-loop-work
decreases-loop-work l = height_in l.work.heights l.from.shaft.0
