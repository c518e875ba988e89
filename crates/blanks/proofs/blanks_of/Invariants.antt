-- `blanks_of` meets its contract. The invariant: n is the count of blanks in the shafts passed.
use mathlib.Core.Path.{◌≡◌}
use Prim.Native.Nat.{◌*◌, ◌≤◌}
use Rattle.stacks.specs.Count.{count}
use Rattle.marks.specs.Cassettes.{blank}
use Rattle.store.specs.Slots.{cassettes_below}
use Rattle.blanks.proofs.blanks_of.Given as goal

abbrev pub invariant-loop-x : goal.invariant-loop-x
invariant-loop-x l = (l.n ≡ count blank (cassettes_below l.fn.s l.x)) × (l.n ≤ 16 * l.x)
