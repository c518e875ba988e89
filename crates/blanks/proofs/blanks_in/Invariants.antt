-- `blanks_in` meets its contract. The invariant: n is the count of blanks in the rows passed.
use mathlib.Core.Path.{◌≡◌}
use Prim.Native.Nat.{◌≤◌}
use Rattle.stacks.specs.Count.{count}
use Rattle.marks.specs.Cassettes.{blank}
use Rattle.rows.specs.Rows.{rows_up}
use Rattle.blanks.proofs.blanks_in.Given as goal

abbrev pub invariant-loop-k : goal.invariant-loop-k
invariant-loop-k l = (l.n ≡ count blank (rows_up l.slots l.x l.k)) × (l.n ≤ l.k)
