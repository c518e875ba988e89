-- `place` meets its contract.
use Rattle.stacks.specs.Placing.{lifts_left}
use Rattle.placing.proofs.Underway.{Underway}
use Rattle.placing.proofs.place.place.Given as goal

abbrev pub invariant-loop-view : goal.invariant-loop-view
invariant-loop-view l = Underway l.f l.initial.work.heights l.initial.work.slots l.initial.at.shaft.0 l.initial.at.row.0 l.to.shaft.0 l.to.row.0 l.count l.initial.out l.work.heights l.work.slots l.at.shaft.0 l.at.row.0 l.view l.n l.out

abbrev pub decreases-loop-view : goal.decreases-loop-view
decreases-loop-view l = lifts_left l.view.cover l.view.load l.view.outside
