-- When two answers of a replay are the same but for what the promise leaves free: how the carries of blanks, which "are counted together" (request 5/13), are spread
-- over the slots that show one.
use Rattle.std.specs.Prelude.{◌≡◌, ℕ, ◌<◌, false, List, length, ◌≢◌, slice_index}
use Rattle.marks.specs.Cassettes.{is_blank}
use Rattle.lifts.specs.declared.Refusal.{Refusal}
use Rattle.lifts.specs.Lifting.{slot_count}
use Rattle.store.specs.declared.Store.{Store}
use Rattle.replay.specs.declared.Played.{Played}
use Rattle.replay.specs.declared.Replayed.{Replayed}
use Rattle.replay.specs.Promises.{carries_of}

-- The same count for every number, and beside every slot but those that show a blank.
pub record SameCarries (slots k l : List ℕ) : Type 0 where
  pub numbers : (c : ℕ) → carries_of c slots k ≡ carries_of c slots l
  pub beside : (i : ℕ) → i < slot_count → is_blank (slice_index slots i) ≡ false → slice_index k i ≡ slice_index l i

-- Two answers of a replay.
pub record SameReplay (x y : Replayed) : Type 0 where
  pub store : x.store ≡ y.store
  pub count : x.count ≡ y.count
  pub end : x.end ≡ y.end
  pub carries : SameCarries x.store.slots x.carries y.carries

-- Two answers of lifts made in a lent store, with the stores and the counts that they left.
pub record SamePlay (t u : Store) (k l : List ℕ) (x y : Played Refusal) : Type 0 where
  pub store : t ≡ u
  pub played : x ≡ y
  pub counted : length k ≡ slot_count → SameCarries t.slots k l
  pub uncounted : (length k ≢ slot_count) → k ≡ l
