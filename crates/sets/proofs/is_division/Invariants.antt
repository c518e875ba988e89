-- `is_division` meets its contract. The invariant: each shaft passed is of as many groups as it should be.
use mathlib.Core.Path.{◌≡◌}
use Prim.Native.Nat.{ℕ, ◌<◌}
use lib.Dec.{ltb}
use Rattle.stacks.specs.Count.{one}
use Rattle.sets.specs.Sets.{times_in}
use Rattle.sets.proofs.is_division.Given as goal

abbrev pub invariant-loop-x : goal.invariant-loop-x
invariant-loop-x l = (y : ℕ) → y < l.x → times_in l.groups y ≡ one (ltb y l.m)
