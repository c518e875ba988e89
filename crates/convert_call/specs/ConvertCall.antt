-- What the C call that writes the store of an image in the form named promises (document 02, 8/13: "An image is written in the form that the caller names").
use Rattle.std.specs.Prelude.{List, ◌≡◌, ℕ, length}
use Rattle.marks.specs.Cassettes.{first}
use Rattle.image.specs.Writing.{write_refusal, bytes_after, count_after}
use Rattle.calls.specs.Shared.{answer_of, store_in, read_fault}

-- the faults of reading, "then 1, 18, 10": a store that was read has no other
abbrev pub convert_fault : List ℕ → ℕ → ℕ → ℕ
convert_fault a f room = first (read_fault a) (write_refusal f (store_in a) room)

-- The image of the store in form f, or nothing, was written; the count is that of its bytes.
pub record ConvertCallIs (a : List ℕ) (f : ℕ) (came : List ℕ) (r : ℕ) (out : List ℕ) : Type 0 where
  pub answer : r ≡ answer_of (count_after (convert_fault a f (length came)) f (store_in a)) (convert_fault a f (length came))
  pub bytes : out ≡ bytes_after (convert_fault a f (length came)) f (store_in a) came
