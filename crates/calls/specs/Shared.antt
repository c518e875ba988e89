-- What the C calls share: an answer put together, a refusal that writes nothing, and images read (document 01, "The image": "The C calls take stores as
-- images, read start first, and give faults of reading before any other").
use Rattle.std.specs.Prelude.{Result, Ok, Err, List, ◌≡◌, ℕ, zero, suc, ◌+◌, ◌*◌, ◌%◌, ◌^◌}
use Rattle.store.specs.declared.Store.{Store}
use Rattle.store.specs.Accept.{Accepted}
use Rattle.marks.specs.Cassettes.{first}
use Rattle.image.specs.declared.Read.{Read}
use Rattle.image.specs.Numbers.{read_number}
use Rattle.image.specs.Reading.{read_image}
use Rattle.calls.specs.declared.Both.{Both}

-- count × 256 + number; a count of 56 bits or more keeps its low 56 bits
abbrev pub answer_of : ℕ → ℕ → ℕ
answer_of count number = count % 2 ^ 56 * 256 + number

-- the count that a result gives, 0 for a refusal
abbrev pub count_in : {E : Type 0} → Result ℕ E → ℕ
count_in (Ok count) = count
count_in (Err e) = 0

-- A refused call gives its number k, and leaves the lent bytes as they came.
pub record RefusedCall (k : ℕ) (came out : List ℕ) (r : ℕ) : Type 0 where
  pub number : r ≡ k
  pub bytes : out ≡ came

-- the store that an image stands for, and the number that refuses the image, 0 for none
abbrev pub store_in : List ℕ → Store
store_in bytes = (read_image bytes).store

abbrev pub read_fault : List ℕ → ℕ
read_fault bytes = (read_image bytes).number

-- An image was read: the answer has the number that refuses it, and the store is accepted as a value where nothing refuses the image.
pub record OneIs (a : List ℕ) (r : Read) : Type 0 where
  pub number : read_number r.answer ≡ read_fault a
  pub store : r.store ≡ store_in a
  pub accepted : read_number r.answer ≡ 0 → Accepted r.store

-- "read start first"
abbrev pub read_faults : List ℕ → List ℕ → ℕ
read_faults a b = first (read_fault a) (read_fault b)

-- the goal's store, and that of a refused reading where the start is refused, since the goal is not read then
abbrev pub goal_after : ℕ → Store → Store → Store
goal_after zero start goal = goal
goal_after (suc k) start goal = start

-- Two images were read: the answer has the number that refuses them, and the stores are theirs.
pub record BothAre (a b : List ℕ) (r : Both) : Type 0 where
  pub number : read_number r.answer ≡ read_faults a b
  pub start : r.start ≡ store_in a
  pub goal : r.goal ≡ goal_after (read_fault a) (store_in a) (store_in b)
