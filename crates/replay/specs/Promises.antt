-- What a replay promises, by the definition.
use Rattle.std.specs.Prelude.{◌≡◌, ℕ, List, length, ◌==◌, ◌≢◌, slice_index}
use Rattle.stacks.specs.Count.{sum}
use Rattle.marks.specs.Cassettes.{given}
use Rattle.lifts.specs.Lifting.{slot_count}
use Rattle.lifts.specs.declared.Refusal.{Refusal}
use Rattle.lifts.specs.Numbers.{Only}
use Rattle.store.specs.declared.Store.{Store}
use Rattle.replay.specs.declared.Played.{Played}
use Rattle.replay.specs.declared.Replayed.{Replayed}
use Rattle.replay.specs.Counting.{NoneCounted}
use Rattle.replay.specs.Numbers.{end_number}
use Rattle.replay.specs.Replaying.{Outcome, times_carried}

-- A count stands beside each slot: those of the slots that show c, added up.
unfoldable pub carries_of : ℕ → List ℕ → List ℕ → ℕ
carries_of c slots carries = sum slot_count (λ i. given (c == slice_index slots i) (slice_index carries i))

-- A replay came to an outcome. Its counts say for every cassette how often it was carried: "Carries of blanks are counted together" (request 5/13), and how they
-- are spread over the slots that show one is left free.
pub record ReplayIs (o : Outcome) (r : Replayed) : Type 0 where
  pub store : r.store ≡ o.reached
  pub count : r.count ≡ o.count
  pub end : Only end_number o.number r.end
  pub carries : (c : ℕ) → carries_of c r.store.slots r.carries ≡ times_carried o c

-- The lifts of a list, made in a lent store, came to an outcome; t and carries are what they left. With a count for each slot, the counts say how often each
-- cassette was carried; else they are still 0.
pub record PlayIs (o : Outcome) (t : Store) (carries : List ℕ) (r : Played Refusal) : Type 0 where
  pub store : t ≡ o.reached
  pub count : r.count ≡ o.count
  pub end : Only end_number o.number r.end
  pub counted : length carries ≡ slot_count → (c : ℕ) → carries_of c t.slots carries ≡ times_carried o c
  pub uncounted : (length carries ≢ slot_count) → NoneCounted carries
