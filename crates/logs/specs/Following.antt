-- What following a log on a store comes to (document 02, 9/13), entry by entry.
use Rattle.std.specs.Prelude.{Bool, not, List, [], ◌∷◌, ℕ, zero, suc, ◌/◌, ◌%◌, eqb, length, drop}
use Rattle.bits.specs.Fields.{bits_of}
use Rattle.marks.specs.Cassettes.{given, first}
use Rattle.store.specs.declared.Store.{Store}
use Rattle.store.specs.Accept.{store_fault}
use Rattle.entries.specs.declared.Entry.{Entry}
use Rattle.entries.specs.Entries.{entry_width, entry_bytes, entry_in, entry_fault, after_entry}

-- "the store after it, or the first entry that can't be true, counted from 0, with the store before that entry". The number 0: all are true, and entry is their
-- count.
pub record Following : Type 0 where
  pub reached : Store
  pub entry : ℕ
  pub number : ℕ

-- an entry that can be true, and then what came of the others
abbrev pub one_more : Following → Following
one_more o = record { reached = o.reached; entry = suc o.entry; number = o.number }

-- nothing followed
abbrev pub none_true : Store → ℕ → Following
none_true s k = record { reached = s; entry = 0; number = k }

-- the first k entries of bits: "a run of 24-bit entries"
unfoldable pub entries_in : ℕ → List Bool → List Entry
unfolding entry_in
entries_in zero l = []
entries_in (suc k) l = entry_in l ∷ entries_in k (drop entry_width l)

-- the entries of a log
unfoldable pub entries_of : List ℕ → List Entry
unfolding entries_in bits_of
entries_of log = entries_in (length log / entry_bytes) (bits_of log)

-- following entries from an accepted store
unfoldable pub follow_from : Store → List Entry → Following
unfolding entry_fault after_entry
follow_from s [] = none_true s 0
follow_from s (e ∷ es) = elim (entry_fault s e) [ zero ↦ one_more (follow_from (after_entry s e) es) | suc k ↦ none_true s (suc k) ]

-- "19, a length that isn't a multiple of 3 (tested before any entry)"
abbrev pub length_fault : List ℕ → ℕ
length_fault log = given (not (eqb (length log % entry_bytes) 0)) 19

-- "a refused store, then a wrong length, gives entry 0 and the store as it came"
unfoldable pub follow : Store → List ℕ → Following
unfolding entries_of follow_from
follow s log = elim (first (store_fault s) (length_fault log)) [ zero ↦ follow_from s (entries_of log) | suc k ↦ none_true s (suc k) ]
