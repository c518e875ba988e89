-- What the parts of a check promise.
use Rattle.std.specs.Prelude.{List, ℕ, Result}
use Rattle.marks.specs.Marking.{Marked}
use Rattle.lifts.specs.Numbers.{ResultIs}
use Rattle.store.specs.declared.Fault.{Fault}
use Rattle.store.specs.declared.Store.{Store}
use Rattle.store.specs.Accept.{shafts_fault}
use Rattle.store.specs.Numbers.{fault_number}
use Rattle.store.specs.Slots.{cassettes}

-- The shafts of a store were taken, from no marks on; or the first fault was found.
abbrev pub ShaftsAre : Store → Result (List ℕ) Fault → Type 0
ShaftsAre s r = ResultIs fault_number (shafts_fault s s.m) (λ words. Marked words (cassettes s)) r
