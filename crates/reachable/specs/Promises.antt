-- What the yes or no promises: for each value of the answer, what it says. No two values can be right at once (`proofs/Exact.antt`).
use Rattle.std.specs.Prelude.{Bool, true, false, Result, Ok, Err}
use Rattle.store.specs.declared.Store.{Store}
use Rattle.store.specs.Lists.{Reachable}
use Rattle.reach.specs.Pairs.{Comparable}
use Rattle.pairs.specs.declared.PairFault.{PairFault}
use Rattle.pairs.specs.Promises.{Faulty}

-- The yes or no. Yes: some list of legal lifts leads from start to goal. No: none of any length does.
abbrev pub ReachSays : Store → Store → Result Bool PairFault → Type 0
ReachSays s t (Ok true) = Comparable s t × Reachable s t
ReachSays s t (Ok false) = Comparable s t × (Reachable s t → ⊥)
ReachSays s t (Err f) = Faulty s t f
