-- The cassettes present that are no blanks, as a set of marks: words of 64 bits, bit c % 64 of word c / 64 for cassette c (document 01, "The store":
-- "kept as a set of marks"; request 5/13: "n is the marks of the others plus the count of blanks").
use Rattle.std.specs.Prelude.{cond, List, [], ◌∷◌, ◌≡◌, ℕ, ◌+◌, ◌/◌, ◌%◌, ◌^◌, ◌<◌, get_or, set, replicate}
use Rattle.std.specs.Int.Bits.{bit_or}
use Rattle.std.specs.Int.Count.{ones}
use Rattle.stacks.specs.Count.{count}
use Rattle.marks.specs.Cassettes.{numbers, is_blank, Once}

-- how many words hold a mark for every number
abbrev pub mark_words : ℕ
mark_words = 64

abbrev pub no_marks : List ℕ
no_marks = replicate mark_words 0

-- cassette c is marked: 1, or else 0
unfoldable pub marked : List ℕ → ℕ → ℕ
marked w c = get_or w (c / 64) 0 / 2 ^ (c % 64) % 2

-- the marks with cassette c among them
unfoldable pub with_mark : List ℕ → ℕ → List ℕ
with_mark w c = set w (c / 64) (bit_or (get_or w (c / 64) 0) (2 ^ (c % 64)))

-- the marks after a cassette is taken: a blank has none
abbrev pub with_cassette : List ℕ → ℕ → List ℕ
with_cassette w c = cond (is_blank c) w (with_mark w c)

-- the marks w with each cassette of a list added
unfoldable pub with_marks : List ℕ → List ℕ → List ℕ
unfolding with_mark
with_marks w [] = w
with_marks w (c ∷ l) = with_marks (with_mark w c) l

-- the cassettes of a list that are no blanks
unfoldable pub others : List ℕ → List ℕ
others [] = []
others (c ∷ l) = cond (is_blank c) (others l) (c ∷ others l)

-- the marks of a list of cassettes
unfoldable pub marks_of : List ℕ → List ℕ
unfolding with_marks others
marks_of l = with_marks no_marks (others l)

-- "the marks of the others": the ones of the words
unfoldable pub mark_count : List ℕ → ℕ
mark_count [] = 0
mark_count (w ∷ l) = ones w + mark_count l

-- The words mark the cassettes of a list, in which no number but the blank stands twice.
pub record Marked (words l : List ℕ) : Type 0 where
  pub marks : words ≡ marks_of l
  pub below : (c : ℕ) → 0 < count c l → c < numbers
  pub once : Once l
