-- `renumbered` meets its contract. The invariant: the places passed have their values.
use Prim.Native.Nat.{ℕ}
use lib.ListN.{get_or}
use Rattle.lifts.specs.Lifting.{most_shafts}
use Rattle.parts.proofs.Tabulated.{FilledTo}
use Rattle.parts.proofs.renumbered.Given as goal

abbrev pub invariant-loop-i : goal.invariant-loop-i
invariant-loop-i l = FilledTo (λ (j : ℕ). get_or l.values (get_or l.names j 0) 0) most_shafts l.out l.i
