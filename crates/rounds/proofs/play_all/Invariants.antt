-- `play_all` meets its contract.
use Rattle.rounds.specs.Rounds.{rows_left}
use Rattle.rounds.proofs.Arriving.{Rounding}
use Rattle.rounds.proofs.play_all.Given as goal

abbrev pub invariant-loop-f : goal.invariant-loop-f
invariant-loop-f l = Rounding l.f l.goal.heights l.goal.slots l.initial.done l.initial.work.heights l.initial.work.slots l.initial.out l.done l.work.heights l.work.slots l.count l.out

abbrev pub decreases-loop-f : goal.decreases-loop-f
decreases-loop-f l = rows_left l.f l.goal.heights l.done
