-- The image of a store (document 01, "The image"; document 02, 7/13 and 8/13): "Fields are packed most significant bit first, with no gaps". Form 0 has one depth
-- for all shafts, form 1 a depth for each, and form 2 besides cassettes of 12 bits.
use Rattle.std.specs.Prelude.{Bool, cond, not, ◌&&◌, ◌||◌, List, [], ◌++◌, ◌≡◌, ℕ, zero, suc, ◌-◌, ◌<◌, ltb, eqb, length, get_or}
use Rattle.bits.specs.Fields.{bits, field, bits_of, bytes_of, byte_count}
use Rattle.marks.specs.Cassettes.{given}
use Rattle.lifts.specs.Lifting.{slot_count, height_in}
use Rattle.depths.specs.Depths.{depth_by}
use Rattle.in_place.specs.InPlace.{all_below}
use Rattle.store.specs.declared.Store.{Store}
use Rattle.store.specs.Slots.{depth}
use Rattle.rows.specs.Rows.{rows_up}
use Rattle.image.specs.Coding.{codable, cassette_bits}

-- how many bits each field has: the form, m − 1 and a depth − 1, a height; of a cassette see `cassette_width`
abbrev pub form_width : ℕ
form_width = 4

abbrev pub frame_width : ℕ
frame_width = 4

abbrev pub height_width : ℕ
height_width = 5

-- the last form that there is
abbrev pub last_form : ℕ
last_form = 2

-- "Number 1 covers forms above 2, read or named for writing"
abbrev pub form_fault : ℕ → ℕ
form_fault f = given (ltb last_form f) 1

-- in form f each shaft has its own depth, before its height; in form 0 the head has one for all
abbrev pub own_depths : ℕ → Bool
own_depths f = ltb 0 f

-- "Form 2 is form 1 with 12-bit numbers": in the others a cassette has 8 bits
abbrev pub byte_width : ℕ
byte_width = 8

abbrev pub wide_width : ℕ
wide_width = 12

unfoldable pub cassette_width : ℕ → ℕ
cassette_width f = cond (ltb 1 f) wide_width byte_width

-- how many depths an image of m shafts names
abbrev pub depth_fields : ℕ → ℕ → ℕ
depth_fields f m = cond (own_depths f) m 1

-- a field of w bits that is there or not
abbrev pub field_if : Bool → ℕ → ℕ → List Bool
field_if there w v = cond there (bits w v) []

-- "form (4 bits ..), m − 1 (4), h − 1 (4)"; forms 1 and 2 have "form, m − 1"
unfoldable pub head_bits : ℕ → Store → List Bool
head_bits f s = bits form_width f ++ bits frame_width (s.m - 1) ++ field_if (not (own_depths f)) frame_width (depth s 0 - 1)

-- in forms 1 and 2 "its depth − 1 (4 bits), height (5) and cassettes", in form 0 "its height (5) and its cassettes from row 1 upward": shaft x of the depths, the
-- heights and the slots
unfoldable pub column_bits : ℕ → List ℕ → List ℕ → List ℕ → ℕ → List Bool
unfolding cassette_width
column_bits f depths heights slots x =
    field_if (own_depths f) frame_width (depth_by depths x - 1) ++ bits height_width (height_in heights x) ++ cassette_bits (cassette_width f) (rows_up slots x (height_in heights x))

-- "for each shaft from 0": the shafts below x
unfoldable pub columns_bits : ℕ → List ℕ → List ℕ → List ℕ → ℕ → List Bool
unfolding column_bits
columns_bits f depths heights slots zero = []
columns_bits f depths heights slots (suc x) = columns_bits f depths heights slots x ++ column_bits f depths heights slots x

abbrev pub shaft_bits : ℕ → Store → ℕ → List Bool
shaft_bits f s = column_bits f s.depths s.heights s.slots

abbrev pub shafts_bits : ℕ → Store → ℕ → List Bool
shafts_bits f s = columns_bits f s.depths s.heights s.slots

unfoldable pub image_bits : ℕ → Store → List Bool
unfolding head_bits columns_bits
image_bits f s = head_bits f s ++ shafts_bits f s s.m

-- how many bytes the image in form f has
unfoldable pub length_in : ℕ → Store → ℕ
unfolding image_bits
length_in f s = byte_count (length (image_bits f s))

-- the image in form f: "then zero bits to the end of the byte"
unfoldable pub image_in : ℕ → Store → List ℕ
unfolding length_in
image_in f s = bytes_of (length_in f s) (image_bits f s)

-- all shafts have one depth, and as a test
abbrev pub EqualDepths : Store → Type 0
EqualDepths s = (x : ℕ) → x < s.m → depth s x ≡ depth s 0

unfoldable pub equal_depths : Store → Bool
unfolding all_below
equal_depths s = all_below s.m (λ x. eqb (depth s x) (depth s 0))

-- every slot shows a number that has a value of w bits
unfoldable pub all_codable : ℕ → Store → Bool
unfolding all_below codable
all_codable w s = all_below slot_count (λ i. codable w (get_or s.slots i 0))

-- form f can hold the store: it has no "unequal depths in form 0", and no "cassette from 255 to 4,094 in form 0 or 1"
unfoldable pub holds : ℕ → Store → Bool
unfolding equal_depths all_codable cassette_width
holds f s = (own_depths f || equal_depths s) && all_codable (cassette_width f) s

-- the form that bytes name: their first field
unfoldable pub form_in : List ℕ → ℕ
form_in bytes = field (bits_of bytes) form_width
