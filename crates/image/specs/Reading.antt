-- Reading an image (document 01, "Which comes first"; document 02, 7/13 and 8/13): "Reading goes field by field, and the first fault met is given: 2 for a missing field, then
-- the field's own fault (4 before 5)." After the last shaft comes 7 (request 3/13). Each part is handed what is read after it, so the faults come in this
-- order.
use Rattle.std.specs.Prelude.{Bool, cond, not, ◌&&◌, Option, Some, None, List, [], ◌∷◌, ◌++◌, ℕ, zero, suc, ◌+◌, ◌*◌, ltb, eqb, length, drop, set, replicate}
use Rattle.bits.specs.Fields.{field, bits_of, next_field}
use Rattle.marks.specs.Cassettes.{given, cassette_fault}
use Rattle.lifts.specs.Lifting.{most_shafts}
use Rattle.store.specs.declared.Store.{Store}
use Rattle.store.specs.Slots.{held, empty_store}
use Rattle.image.specs.Coding.{meant}
use Rattle.image.specs.Image.{form_width, frame_width, height_width, cassette_width, form_fault, own_depths}

-- the store, and the number of the refusal, 0 where the image is accepted
pub record Reading : Type 0 where
  pub store : Store
  pub number : ℕ

-- no depth read so far
abbrev pub no_depths : List ℕ
no_depths = replicate most_shafts 0

-- "a refused reading hands back the empty store of m 1, h 1"
abbrev pub smallest : Store
smallest = empty_store 1 (set no_depths 0 1)

abbrev pub refused : ℕ → Reading
refused k = record { store = smallest; number = k }

-- a reading that goes on unless the number k refuses it
abbrev pub unless : ℕ → Reading → Reading
unless zero r = r
unless (suc k) r = refused (suc k)

-- what is read next, from the cassettes read so far, the store that they make, and the bits left
abbrev pub Rest : Type 0
Rest = List ℕ → Store → List Bool → Reading

-- a part of the reading, with what is read after it
abbrev pub Part : Type 0
Part = List ℕ → Store → List Bool → Rest → Reading

-- "2. The image ends before its last field does."
abbrev pub from_field : Option ℕ → (ℕ → Reading) → Reading
from_field (Some v) c = c v
from_field None c = refused 2

-- the next field of w bits
abbrev pub next : ℕ → List Bool → (ℕ → List Bool → Reading) → Reading
next w l c = from_field (next_field l w) (λ v. c v (drop w l))

-- the same, where it is there; else v
abbrev pub next_if : Bool → ℕ → ℕ → List Bool → (ℕ → List Bool → Reading) → Reading
next_if there w v l c = cond there (next w l c) (c v l)

-- the store with depth d of shaft x
abbrev pub deepened : Store → ℕ → ℕ → Store
deepened s x d = held s.m (set s.depths x d) s.heights s.slots

-- the store with height v of shaft x
abbrev pub raised : Store → ℕ → ℕ → Store
raised s x v = held s.m s.depths (set s.heights x v) s.slots

-- the store with cassette v at row k + 1 of shaft x
abbrev pub placed : Store → ℕ → ℕ → ℕ → Store
placed s x k v = held s.m s.depths s.heights (set s.slots (16 * x + k) v)

-- "4. A cassette number 0.", and then 5, a number that stood earlier in the image and is no blank (request 5/13)
abbrev pub take_cassette : ℕ → ℕ → ℕ → Part
take_cassette x k v before s l c = unless (cassette_fault before v) (c (before ++ (v ∷ [])) (placed s x k v) l)

-- a cassette as a field of w bits, by the number that its value stands for (request 8/13)
abbrev pub read_row : ℕ → ℕ → ℕ → Part
read_row w x k before s l c = next w l (λ v r. take_cassette x k (meant w v) before s r c)

-- "its cassettes from row 1 upward": the first k, each a field of w bits
unfoldable pub read_rows : ℕ → ℕ → ℕ → Part
unfolding meant
read_rows w x zero before s l c = c before s l
read_rows w x (suc k) before s l c = read_rows w x k before s l (λ b t r. read_row w x k b t r c)

-- 3, a height v above the depth d of its shaft (request 7/13), and then the shaft's cassettes
unfoldable pub read_column : ℕ → ℕ → ℕ → ℕ → Part
unfolding read_rows
read_column w x d v before s l c = unless (given (ltb d v) 3) (read_rows w x v before (raised s x v) l c)

-- "its height (5) and its cassettes": shaft x, of depth d
abbrev pub read_height : ℕ → ℕ → ℕ → Part
read_height w x d before s l c = next height_width l (λ v r. read_column w x d v before s r c)

-- shaft x in form f: its own depth − 1 comes first, or is the one of the head, v
abbrev pub read_shaft : ℕ → ℕ → ℕ → Part
read_shaft f v x before s l c = next_if (own_depths f) frame_width v l (λ u r. read_height (cassette_width f) x (u + 1) before (deepened s x (u + 1)) r c)

-- "for each shaft from 0": the shafts below x
unfoldable pub read_shafts : ℕ → ℕ → ℕ → Part
unfolding read_column cassette_width
read_shafts f v zero before s l c = c before s l
read_shafts f v (suc x) before s l c = read_shafts f v x before s l (λ b t r. read_shaft f v x b t r c)

-- what is left is zero bits to the end of a byte: "the byte in which the last field ends holds all the padding"
unfoldable pub padding : List Bool → Bool
padding l = ltb (length l) 8 && eqb (field l (length l)) 0

-- "7. A padding bit set, or bytes after the padding."
abbrev pub end_fault : List Bool → ℕ
end_fault l = given (not (padding l)) 7

unfoldable pub finish : Rest
unfolding padding
finish before s l = unless (end_fault l) (record { store = s; number = 0 })

-- the shafts of a store that is empty so far, and the end
unfoldable pub read_body : ℕ → ℕ → Store → List Bool → Reading
unfolding read_shafts finish
read_body f v s l = read_shafts f v s.m [] s l finish

-- "h − 1 (4)", where the form has one depth for all shafts
abbrev pub read_depth : ℕ → ℕ → List Bool → Reading
read_depth f m l = next_if (not (own_depths f)) frame_width 0 l (λ v r. read_body f v (empty_store (m + 1) no_depths) r)

-- "m − 1 (4)"
abbrev pub read_size : ℕ → List Bool → Reading
read_size f l = next frame_width l (read_depth f)

-- the form, and what is after it
abbrev pub read_form : ℕ → List Bool → Reading
read_form f l = unless (form_fault f) (read_size f l)

-- what a list of bytes is read as, for every list
unfoldable pub read_image : List ℕ → Reading
unfolding read_body
read_image bytes = next form_width (bits_of bytes) read_form
