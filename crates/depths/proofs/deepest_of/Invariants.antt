-- `deepest_of` meets its contract. The invariant: the greatest of the depths passed.
use mathlib.Core.Path.{◌≡◌}
use Rattle.stacks.specs.Count.{greatest}
use Rattle.depths.specs.Depths.{depth_by}
use Rattle.depths.proofs.deepest_of.Given as goal

abbrev pub invariant-loop-x : goal.invariant-loop-x
invariant-loop-x l = l.most ≡ greatest l.x (depth_by l.depths)
