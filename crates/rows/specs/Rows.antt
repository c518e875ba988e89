-- The rows of one shaft, read upward and downward, and the first fault of its cassettes, in image order (request 3/13).
use Rattle.std.specs.Prelude.{List, [], ◌∷◌, ◌++◌, ◌≡◌, ℕ, zero, suc, ◌<◌, Result, Ok, Err}
use Rattle.marks.specs.declared.CassetteFault.{CassetteFault}
use Rattle.marks.specs.Cassettes.{first, cassette_fault}
use Rattle.marks.specs.Marking.{Marked}
use Rattle.marks.specs.Taking.{taken_number}
use Rattle.lifts.specs.Lifting.{shown}

-- rows 1 to k of shaft x in a list of slots, read upward
unfoldable pub rows_up : List ℕ → ℕ → ℕ → List ℕ
rows_up slots x zero = []
rows_up slots x (suc k) = rows_up slots x k ++ (shown slots x (suc k) ∷ [])

-- and read downward
unfoldable pub rows_down : List ℕ → ℕ → ℕ → List ℕ
rows_down slots x zero = []
rows_down slots x (suc k) = shown slots x (suc k) ∷ rows_down slots x k

-- the first fault of rows 1 to k of shaft x, after the cassettes `before`
unfoldable pub rows_fault : List ℕ → List ℕ → ℕ → ℕ → ℕ
rows_fault before slots x zero = 0
rows_fault before slots x (suc k) = first (rows_fault before slots x k) (cassette_fault (before ++ rows_up slots x k) (shown slots x (suc k)))

-- The rows below one of rows 1 to k were taken, and that one was refused: it is the first with a fault.
pub record RowRefused (words slots : List ℕ) (x k : ℕ) (words' : List ℕ) : Type 0 where
  pub below : ℕ
  pub few : below < k
  pub none : (before : List ℕ) → Marked words before → rows_fault before slots x below ≡ 0
  pub met : (before : List ℕ) → Marked words before → cassette_fault (before ++ rows_up slots x below) (shown slots x (suc below)) ≡ 0 → ⊥
  pub marks : (before : List ℕ) → Marked words before → Marked words' (before ++ rows_up slots x below)

-- Rows 1 to k of shaft x were taken after the cassettes that the words marked; or the first fault was found, and the words mark the rows below it.
pub record RowsAre (words slots : List ℕ) (x k : ℕ) (words' : List ℕ) (r : Result Unit CassetteFault) : Type 0 where
  pub fault : (before : List ℕ) → Marked words before → taken_number r ≡ rows_fault before slots x k
  pub marks : (before : List ℕ) → Marked words before → r ≡ Ok tt → Marked words' (before ++ rows_up slots x k)
  pub refused : (f : CassetteFault) → r ≡ Err f → RowRefused words slots x k words'
