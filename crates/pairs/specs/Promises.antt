-- What comparing two stores promises: for each value of the answer, what it says. No two values can be right at once (`proofs/PairExact.antt`).
use Rattle.std.specs.Prelude.{Result, Ok, Err, ◌≡◌, ℕ}
use Rattle.store.specs.declared.Store.{Store}
use Rattle.store.specs.Accept.{store_fault, Accepted}
use Rattle.store.specs.Numbers.{fault_number}
use Rattle.store.specs.Slots.{cassette_count}
use Rattle.reach.specs.Pairs.{frame_fault, cassettes_fault, Comparable}
use Rattle.pairs.specs.declared.PairFault.{PairFault}

-- Two stores have this fault, and none before it: "For two stores: the start, the goal, 8, 9".
abbrev pub Faulty : Store → Store → PairFault → Type 0
Faulty s t (PairFault.StartRefused f) = store_fault s ≡ fault_number f
Faulty s t (PairFault.GoalRefused f) = Accepted s × (store_fault t ≡ fault_number f)
Faulty s t PairFault.Frames = (Accepted s × Accepted t) × (frame_fault s t ≡ 8)
Faulty s t PairFault.Cassettes = (Accepted s × Accepted t) × ((frame_fault s t ≡ 0) × (cassettes_fault s t ≡ 9))

-- Two stores can be compared, and n is the count of cassettes of each; or they can't, and this is their first fault.
abbrev pub PairSays : Store → Store → Result ℕ PairFault → Type 0
PairSays s t (Ok n) = Comparable s t × (n ≡ cassette_count s)
PairSays s t (Err f) = Faulty s t f

-- Two stores were compared.
abbrev pub CompareIs : Store → Store → Result ℕ PairFault → Type 0
CompareIs s t r = PairSays s t r
