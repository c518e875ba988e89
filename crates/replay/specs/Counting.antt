-- How the counts beside the slots follow a lift.
use Rattle.std.specs.Prelude.{◌≡◌, ℕ, suc, ◌+◌, ◌*◌, ◌^◌, ◌<◌, ◌≤◌, List, length, ◌≢◌, slice_index, slice_index_or, slice_set}
use Rattle.lifts.specs.Lifting.{most_shafts, most_rows, slot_count, height_in}

-- every count that is lent is 0
abbrev pub NoneCounted : List ℕ → Type 0
NoneCounted carries = (i : ℕ) → slice_index carries i ≡ 0

-- a lift from a to b that landed in row y can be counted: heights are those after it
pub record CanCount (carries heights : List ℕ) (a b y : ℕ) : Type 0 where
  pub left_below : a < most_shafts
  pub left_row : height_in heights a < most_rows
  pub entered_below : b < most_shafts
  pub entered_row : (0 < y) × (y ≤ most_rows)
  pub few : slice_index_or carries (16 * a + height_in heights a) 0 + 1 < 2 ^ 64

-- the count at p goes to q, one more
abbrev pub moved_on : List ℕ → ℕ → ℕ → List ℕ
moved_on carries p q = slice_set (slice_set carries p 0) q (suc (slice_index carries p))

-- Where there is a count for each slot, the one at p went to q; else nothing changed.
pub record CountIs (came : List ℕ) (p q : ℕ) (out : List ℕ) : Type 0 where
  pub moved : length came ≡ slot_count → out ≡ moved_on came p q
  pub none : (length came ≢ slot_count) → out ≡ came
