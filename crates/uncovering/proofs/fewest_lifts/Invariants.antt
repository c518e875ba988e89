-- `fewest_lifts` meets its contract. The invariant: the answer so far is the nearest of the shafts passed.
use Rattle.uncovering.specs.Nearest.{NearestIs}
use Rattle.uncovering.proofs.fewest_lifts.Given as goal

abbrev pub invariant-loop-x : goal.invariant-loop-x
invariant-loop-x l = NearestIs 0 l.x l.s l.number l.best
