-- What acceptance says of a store, slot by slot (document 000, Definition 3.1): "no empty slot lies under a cassette", no cassette but the blank stands
-- twice (request 5/13), and nothing stands elsewhere.
use Rattle.std.specs.Prelude.{◌≡◌, ℕ, suc, ◌≤◌, ◌<◌, length, get_or}
use Rattle.marks.specs.Cassettes.{numbers, Once}
use Rattle.lifts.specs.Lifting.{most_shafts, most_rows, slot_count}
use Rattle.store.specs.declared.Store.{Store}
use Rattle.store.specs.Slots.{depth, height, slot, cassettes}

-- the arrays have their lengths and hold what a slot may show, there are at most 16 shafts of at most 16 rows, no height passes its depth, and nothing
-- is recorded beyond
pub record Shaped (s : Store) : Type 0 where
  pub depths_sized : length s.depths ≡ most_shafts
  pub heights_sized : length s.heights ≡ most_shafts
  pub slots_sized : length s.slots ≡ slot_count
  pub numbered : (i : ℕ) → get_or s.slots i 0 < numbers
  pub shafts : s.m ≤ most_shafts
  pub rows : (x : ℕ) → depth s x ≤ most_rows
  pub heights : (x : ℕ) → height s x ≤ depth s x
  pub none_beyond : (x : ℕ) → s.m ≤ x → depth s x ≡ 0
  pub none_above : (x k : ℕ) → x < most_shafts → k < most_rows → height s x ≤ k → slot s x (suc k) ≡ 0

pub record Sound (s : Store) : Type 0 where
  pub shaped : Shaped s
  pub some_shaft : 0 < s.m
  pub some_row : (x : ℕ) → x < s.m → 0 < depth s x
  pub no_gap : (x k : ℕ) → k < height s x → slot s x (suc k) ≡ 0 → ⊥
  pub once : Once (cassettes s)
