-- An entry of the changer's log (document 02, 9/13): which bits of the log are which field, and when it can't be true of a store.
use Rattle.std.specs.Prelude.{Bool, cond, not, ◌&&◌, ◌||◌, List, ◌≡◌, ℕ, ◌≤◌, ◌<◌, ltb, eqb, drop}
use Rattle.bits.specs.Fields.{field}
use Rattle.marks.specs.Cassettes.{given, first}
use Rattle.store.specs.declared.Store.{Store}
use Rattle.store.specs.Lifts.{lift_refusal, lifted}
use Rattle.store.specs.Slots.{top_of}
use Rattle.entries.specs.declared.Entry.{Entry}

-- "24-bit entries": each is three bytes
abbrev pub entry_width : ℕ
entry_width = 24

abbrev pub entry_bytes : ℕ
entry_bytes = 3

-- "packed like image fields: kind (4 bits), shaft (4), second shaft (4), number (12)": the entry that bits begin with
unfoldable pub entry_in : List Bool → Entry
entry_in l = record {
  kind = field l 4;
  shaft = record { 0 = field (drop 4 l) 4 };
  second = record { 0 = field (drop 8 l) 4 };
  number = field (drop 12 l) 12;
}

-- "Kind 0 is a lift from the first shaft to the second of the cassette named. Kind 1 is a sighting"
abbrev pub is_lift : Entry → Bool
is_lift e = eqb e.kind 0

abbrev pub is_sighting : Entry → Bool
is_sighting e = eqb e.kind 1

-- "19, .. a kind above 1, a shaft not below m, a sighting with a second shaft, or a lift with one shaft twice"
unfoldable pub malformed : ℕ → Entry → Bool
malformed m e =
    ltb 1 e.kind
    || (not (ltb e.shaft.0 m) || not (ltb e.second.0 m))
    || (is_sighting e && not (eqb e.second.0 0))
    || (is_lift e && eqb e.shaft.0 e.second.0)

-- The same in words: none of these applies.
pub record Formed (m : ℕ) (e : Entry) : Type 0 where
  pub kinds : e.kind ≤ 1
  pub below : e.shaft.0 < m
  pub second_below : e.second.0 < m
  pub sighting : e.kind ≡ 1 → e.second.0 ≡ 0
  pub lift : e.kind ≡ 0 → e.shaft.0 ≡ e.second.0 → ⊥

-- the number that an entry must have: of a lift the cassette carried, of a sighting "the top cassette of the first shaft, or 0 for an empty shaft"
abbrev pub number_due : Store → Entry → ℕ
number_due s e = top_of s e.shaft.0

-- The number that says why an entry can't be true of a store, 0 where it can: 19, then of a lift 13 and 14 (what is 11 of a single lift is 19 here), then "20, a wrong number, tested after
-- 19, 13 and 14".
unfoldable pub entry_fault : Store → Entry → ℕ
unfolding malformed lift_refusal
entry_fault s e =
    first (given (malformed s.m e) 19)
    (first (given (is_lift e) (lift_refusal s e.shaft.0 e.second.0))
    (given (not (eqb e.number (number_due s e))) 20))

-- the store after an entry that can be true: a sighting changes nothing
unfoldable pub after_entry : Store → Entry → Store
unfolding lifted
after_entry s e = cond (is_lift e) (lifted s e.shaft.0 e.second.0) s
