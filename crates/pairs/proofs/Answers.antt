-- n by the marks and the blanks of an accepted store.
use mathlib.Core.List.{List}
use mathlib.Core.Path.{◌≡◌, ap}
use Prim.Native.Nat.{ℕ, ◌+◌}
use native.Mathlib.Omega.{arith}
use Rattle.stacks.specs.Count.{count}
use Rattle.marks.specs.Cassettes.{blank}
use Rattle.marks.specs.Marking.{mark_count}
use Rattle.store.specs.declared.Store.{Store}
use Rattle.store.specs.Slots.{cassettes, cassette_count}
use Rattle.store.proofs.Acceptance.{accepted_count}
use Rattle.pairs.proofs.Faults.{AcceptedMarks}

pub n_counted : (s : Store) (v : List ℕ) {j k : ℕ} → AcceptedMarks s v → j ≡ mark_count v → k ≡ count blank (cassettes s) → j + k ≡ cassette_count s
n_counted s v m e b = omega (arith, e, ap mark_count m.1, b, accepted_count s m.0)
