-- `carries_of` meets its contract. The invariant: the counts beside the slots looked at that show the cassette are added up.
use Rattle.std.proofs.Common.{◌≡◌, ◌%◌, ◌^◌, eqb, get_or}
use Rattle.stacks.specs.Count.{sum}
use Rattle.marks.specs.Cassettes.{given}
use Rattle.replay.proofs.Replayed.carries_of.Given as goal

abbrev pub invariant-loop-i : goal.invariant-loop-i
invariant-loop-i l = l.times ≡ sum l.i (λ j. given (eqb l.fn.c (get_or l.fn.self.store.slots j 0)) (get_or l.fn.self.carries j 0)) % 2 ^ 64
