-- What taking one more cassette promises.
use Rattle.std.specs.Prelude.{List, [], ◌∷◌, ◌++◌, ◌≡◌, ℕ, not, eqb, Result, Ok, Err}
use Rattle.marks.specs.declared.CassetteFault.{CassetteFault}
use Rattle.marks.specs.declared.CassetteFault.TheVariants.{NoCassette, Twice}
use Rattle.marks.specs.Cassettes.{is_cassette, given, first, cassette_fault}
use Rattle.marks.specs.Marking.{marked, with_cassette, Marked}

-- The number of a result: 0 where nothing is refused, else that of the error.
abbrev pub result_number : {A E : Type 0} → (E → ℕ) → Result A E → ℕ
result_number number (Ok a) = 0
result_number number (Err e) = number e

abbrev pub cassette_number : CassetteFault → ℕ
cassette_number NoCassette = 4
cassette_number Twice = 5

abbrev pub taken_number : Result Unit CassetteFault → ℕ
taken_number = result_number cassette_number

-- the marks after a cassette was taken, or refused
abbrev pub MarksAfter : List ℕ → List ℕ → List ℕ → ℕ → Result Unit CassetteFault → Type 0
MarksAfter before words words' c (Ok a) = Marked words' (before ++ (c ∷ []))
MarksAfter before words words' c (Err f) = words' ≡ words

-- the fault by the mark of the cassette, and the words after it
abbrev pub mark_fault : List ℕ → ℕ → ℕ
mark_fault words c = first (given (not (is_cassette c)) 4) (given (eqb (marked words c) 1) 5)

abbrev pub words_after : List ℕ → ℕ → Result Unit CassetteFault → List ℕ
words_after words c (Ok a) = with_cassette words c
words_after words c (Err f) = words

-- Cassette c was taken, or its fault was found, for any words whatever; and where they mark the cassettes `before`, the fault is that of a cassette after
-- these, and the words mark one more.
pub record TakenIs (words : List ℕ) (c : ℕ) (words' : List ℕ) (r : Result Unit CassetteFault) : Type 0 where
  pub number : taken_number r ≡ mark_fault words c
  pub words_are : words' ≡ words_after words c r
  pub fault : (before : List ℕ) → Marked words before → taken_number r ≡ cassette_fault before c
  pub marks : (before : List ℕ) → Marked words before → MarksAfter before words words' c r
