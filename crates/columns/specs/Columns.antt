-- What the reading of the shafts promises, by the definitions: each part takes the store, the marks and the bit position from one state to another, or ends by a fault.
use Rattle.std.specs.Prelude.{List, ◌≡◌, ℕ, ◌+◌, ◌*◌, ◌≤◌, Result}
use Rattle.marks.specs.Marking.{Marked}
use Rattle.lifts.specs.Lifting.{most_rows}
use Rattle.image.specs.declared.ReadFault.{ReadFault}
use Rattle.image.specs.Image.{frame_width, height_width, wide_width}
use Rattle.image.specs.Coding.{meant}
use Rattle.image.specs.Reading.{Rest, Part, take_cassette, read_rows, read_shaft, read_shafts}
use Rattle.fields.specs.declared.Head.{Head}
use Rattle.fields.specs.Steps.{left, after}
use Rattle.columns.specs.declared.Work.{Work}

-- the most bits that the rows of a shaft take, and that its depth, its height and its rows take
abbrev pub column_most : ℕ
column_most = wide_width * most_rows

abbrev pub shaft_most : ℕ
shaft_most = frame_width + (height_width + column_most)

-- A part of the reading took the state from w to r: what comes after it is read from r on, unless the part ended by a fault.
pub record After (bytes : List ℕ) (part : Part) (w r : Work) (q : Result Unit ReadFault) (before : List ℕ) : Type 0 where
  pub seen : List ℕ
  pub marks : Marked r.words seen
  pub same : (c : Rest) → part before w.store (left bytes w.at) c ≡ after q (λ a. c seen r.store (left bytes r.at))

-- The same, for whatever cassettes came before, with at most `far` bits more. How many shafts the store has stays, where the part ended by a fault too.
pub record Reads (bytes : List ℕ) (part : Part) (far : ℕ) (w r : Work) (q : Result Unit ReadFault) : Type 0 where
  pub after : (before : List ℕ) → Marked w.words before → After bytes part w r q before
  pub within : r.at ≤ w.at + far
  pub shafts : r.store.m ≡ w.store.m

-- The value u, read as a field of n bits, was taken into row k + 1 of shaft x, whatever the bytes are.
pub record CassetteRead (n x k u : ℕ) (w r : Work) (q : Result Unit ReadFault) : Type 0 where
  pub reads : (bytes : List ℕ) → Reads bytes (take_cassette x k (meant n u)) 0 w r q

-- The first rows of shaft x were read, each a field of n bits.
abbrev pub RowsRead : List ℕ → ℕ → ℕ → ℕ → Work → Work → Result Unit ReadFault → Type 0
RowsRead bytes n x rows = Reads bytes (read_rows n x rows) (n * rows)

-- Shaft x was read, after this head.
abbrev pub ShaftRead : List ℕ → Head → ℕ → Work → Work → Result Unit ReadFault → Type 0
ShaftRead bytes h x = Reads bytes (read_shaft h.form h.depth x) shaft_most

-- The shafts below x were read, after this head. What is in its arrays after a fault is left free.
abbrev pub ShaftsRead : List ℕ → Head → ℕ → Work → Work → Result Unit ReadFault → Type 0
ShaftsRead bytes h x = Reads bytes (read_shafts h.form h.depth x) (shaft_most * x)
