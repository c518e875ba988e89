-- Logs looked at whole (document 02, 9/13): "A log on an accepted store is accepted exactly if nothing in it is 19, every lift is legal and each number is the one the
-- store shows." The store is the one that the lifts before have left, by the lists of document 01.
use Rattle.std.specs.Prelude.{cond, List, [], ◌∷◌, map, ◌≡◌, ℕ, ◌%◌, ◌<◌, length, get_or, take}
use Rattle.lifts.specs.Bytes.{lift_byte}
use Rattle.store.specs.declared.Store.{Store}
use Rattle.store.specs.Lists.{Leads}
use Rattle.store.specs.Slots.{top_of}
use Rattle.replay.specs.Replaying.{Outcome}
use Rattle.entries.specs.declared.Entry.{Entry}
use Rattle.entries.specs.Entries.{entry_bytes, entry_in, is_lift, Formed, entry_fault}
use Rattle.logs.specs.Following.{Following, entries_of}

-- entry i, counted from 0
abbrev pub entry_at : List Entry → ℕ → Entry
entry_at es i = get_or es i (entry_in [])

-- the lifts among entries, as the bytes of a list
unfoldable pub lifts_of : List Entry → List ℕ
lifts_of [] = []
lifts_of (e ∷ es) = cond (is_lift e) (lift_byte e.shaft.0 e.second.0 ∷ lifts_of es) (lifts_of es)

-- "A list is legal from a store" (document 01, "The list"): it leads somewhere.
pub record Legal (s : Store) (bs : List ℕ) : Type 0 where
  pub to : Store
  pub leads : Leads s bs to

-- Entries are all true of a store. The store that shows the number of entry i is the one that the lifts before it lead to, t: there is one, since all of them are legal.
pub record TrueEntries (s : Store) (es : List Entry) : Type 0 where
  pub formed : (i : ℕ) → i < length es → Formed s.m (entry_at es i)
  pub legal : Legal s (lifts_of es)
  pub shown : (i : ℕ) (t : Store) → i < length es → Leads s (lifts_of (take i es)) t → (entry_at es i).number ≡ top_of t (entry_at es i).shaft.0

-- "nothing in it is 19, every lift is legal and each number is the one the store shows"
pub record TrueLog (s : Store) (log : List ℕ) : Type 0 where
  pub whole : length log % entry_bytes ≡ 0
  pub entries : TrueEntries s (entries_of log)

-- Entry k is the first that can't be true: those before it are all true, their lifts lead to t, and there it has the number n.
pub record StopsAt (s : Store) (es : List Entry) (k : ℕ) (t : Store) (n : ℕ) : Type 0 where
  pub there : k < length es
  pub before : TrueEntries s (take k es)
  pub leads : Leads s (lifts_of (take k es)) t
  pub fault : entry_fault t (entry_at es k) ≡ n
  pub untrue : n ≡ 0 → ⊥

-- only lifts
abbrev pub LiftsOnly : List Entry → Type 0
LiftsOnly es = (i : ℕ) → i < length es → (entry_at es i).kind ≡ 0

-- what a log of lifts only, all true, is as a replay: its numbers are the cassettes carried
abbrev pub as_replay : Following → List Entry → Outcome
as_replay o es = record { reached = o.reached; count = o.entry; number = o.number; carried = map (λ e. e.number) es }
