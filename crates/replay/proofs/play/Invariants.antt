-- `play` meets its contract. The invariant: the replay of the whole list goes on from the store reached with what is left of the list, and the counts are
-- those of the lifts before.
use Rattle.std.proofs.Common.{◌≡◌, length}
use Rattle.replay.proofs.Playing.{Goes}
use Rattle.replay.proofs.play.Given as goal

abbrev pub invariant-loop-count : goal.invariant-loop-count
invariant-loop-count l = (length l.carries ≡ length l.initial.carries) × Goes l.initial.s l.list l.s l.carries l.count
