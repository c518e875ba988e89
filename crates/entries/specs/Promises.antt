-- What the functions on one entry promise.
use Rattle.std.specs.Prelude.{◌≡◌, ℕ, Result}
use Rattle.marks.specs.Cassettes.{given}
use Rattle.lifts.specs.Numbers.{Only}
use Rattle.store.specs.declared.Store.{Store}
use Rattle.store.specs.Lifts.{lift_refusal, when_none}
use Rattle.entries.specs.declared.Entry.{Entry}
use Rattle.entries.specs.declared.Untrue.{Untrue}
use Rattle.entries.specs.Entries.{is_lift, entry_fault, after_entry}
use Rattle.entries.specs.Numbers.{truth_number}

-- what refuses the lift of an entry; nothing refuses a sighting
abbrev pub lift_fault : Store → Entry → ℕ
lift_fault s e = given (is_lift e) (lift_refusal s e.shaft.0 e.second.0)

-- An entry was followed: s is the store that came, t what it left. "the store before that entry" where it can't be true.
pub record EntryIs (s : Store) (e : Entry) (t : Store) (r : Result Unit Untrue) : Type 0 where
  pub truth : Only truth_number (entry_fault s e) r
  pub store : t ≡ when_none (entry_fault s e) (after_entry s e) s
