-- The cases that document 01 marks to be proved, "Filled stores to try", some with blanks (request 5/13), some with unequal depths (request 7/13), some with numbers
-- past 255 (request 8/13), and some logs (request 9/13), one row for each claim.
use Rattle.std.specs.Prelude.{List, [], ◌∷◌, ℕ, replicate}
use Rattle.marks.specs.Cassettes.{blank}
use Rattle.store.specs.declared.Store.{Store}
use Rattle.cases.specs.Claims.{Claim, lift_gets, yes_by, unreachable, pair_gets, space_is, reading_gets, image_is, writing_gets, length_is, log_gets, uneven_of, store_of}

-- "m 3, h 3, no cassette"
abbrev pub bare : Store
bare = store_of 3 ([] ∷ [] ∷ [] ∷ [])

-- "m 3, h 2, full", and "with two cassettes exchanged"
abbrev pub full : Store
full = store_of 2 ((1 ∷ 2 ∷ []) ∷ (3 ∷ 4 ∷ []) ∷ (5 ∷ 6 ∷ []) ∷ [])

abbrev pub full_exchanged : Store
full_exchanged = store_of 2 ((1 ∷ 2 ∷ []) ∷ (3 ∷ 5 ∷ []) ∷ (4 ∷ 6 ∷ []) ∷ [])

-- "m 3, h 4, n 9 (e 3), [1 4 5 6] [2 7 8] [3 9]", "bottom row changed", and "bottom row equal"
abbrev pub nine : Store
nine = store_of 4 ((1 ∷ 4 ∷ 5 ∷ 6 ∷ []) ∷ (2 ∷ 7 ∷ 8 ∷ []) ∷ (3 ∷ 9 ∷ []) ∷ [])

abbrev pub nine_bottom_changed : Store
nine_bottom_changed = store_of 4 ((2 ∷ 4 ∷ 5 ∷ 6 ∷ []) ∷ (1 ∷ 7 ∷ 8 ∷ []) ∷ (3 ∷ 9 ∷ []) ∷ [])

abbrev pub nine_bottom_equal : Store
nine_bottom_equal = store_of 4 ((1 ∷ 9 ∷ []) ∷ (2 ∷ 6 ∷ 5 ∷ 4 ∷ []) ∷ (3 ∷ 8 ∷ 7 ∷ []) ∷ [])

abbrev pub nine_list : List ℕ
nine_list = 0x12 ∷ 0x12 ∷ 0x01 ∷ 0x01 ∷ 0x20 ∷ 0x20 ∷ 0x21 ∷ 0x02 ∷ 0x02 ∷ 0x02 ∷ 0x10 ∷ 0x21 ∷ []

-- "m 1, h 2, [1 2]", and "[2 1]"
abbrev pub one_shaft : Store
one_shaft = store_of 2 ((1 ∷ 2 ∷ []) ∷ [])

abbrev pub one_shaft_turned : Store
one_shaft_turned = store_of 2 ((2 ∷ 1 ∷ []) ∷ [])

-- "m 2, h 3, [1 2] [3]", "[1] [3 2]", and "[1] [2 3]"
abbrev pub two : Store
two = store_of 3 ((1 ∷ 2 ∷ []) ∷ (3 ∷ []) ∷ [])

abbrev pub two_shifted : Store
two_shifted = store_of 3 ((1 ∷ []) ∷ (3 ∷ 2 ∷ []) ∷ [])

abbrev pub two_turned : Store
two_turned = store_of 3 ((1 ∷ []) ∷ (2 ∷ 3 ∷ []) ∷ [])

-- "m 3, h 1, [1] [2] []", and "[2] [1] []"
abbrev pub singles : Store
singles = store_of 1 ((1 ∷ []) ∷ (2 ∷ []) ∷ [] ∷ [])

abbrev pub singles_exchanged : Store
singles_exchanged = store_of 1 ((2 ∷ []) ∷ (1 ∷ []) ∷ [] ∷ [])

-- "`02 11 00 81 00 20 60` is m = 3, h = 2, shafts [1 2] [] [3], bottom first"
abbrev pub example : Store
example = store_of 2 ((1 ∷ 2 ∷ []) ∷ [] ∷ (3 ∷ []) ∷ [])

-- one shaft with blanks, and two of its cassettes exchanged, a blank one of them
abbrev pub one_blank : Store
one_blank = store_of 3 ((blank ∷ 1 ∷ blank ∷ []) ∷ [])

abbrev pub one_blank_turned : Store
one_blank_turned = store_of 3 ((1 ∷ blank ∷ blank ∷ []) ∷ [])

-- two shafts with blanks, the same reading, and another
abbrev pub two_blank : Store
two_blank = store_of 3 ((blank ∷ 1 ∷ []) ∷ (blank ∷ []) ∷ [])

abbrev pub two_blank_shifted : Store
two_blank_shifted = store_of 3 ((blank ∷ []) ∷ (blank ∷ 1 ∷ []) ∷ [])

abbrev pub two_blank_turned : Store
two_blank_turned = store_of 3 ((1 ∷ []) ∷ (blank ∷ blank ∷ []) ∷ [])

-- three shafts with blanks, e 1: the lowest rows equal, though another blank stands there, and not equal
abbrev pub three_blank : Store
three_blank = store_of 2 ((blank ∷ 1 ∷ []) ∷ (blank ∷ blank ∷ []) ∷ (2 ∷ []) ∷ [])

abbrev pub three_blank_mixed : Store
three_blank_mixed = store_of 2 ((blank ∷ blank ∷ []) ∷ (blank ∷ []) ∷ (2 ∷ 1 ∷ []) ∷ [])

abbrev pub three_blank_changed : Store
three_blank_changed = store_of 2 ((1 ∷ blank ∷ []) ∷ (blank ∷ blank ∷ []) ∷ (2 ∷ []) ∷ [])

-- one blank fewer
abbrev pub three_blank_fewer : Store
three_blank_fewer = store_of 2 ((blank ∷ 1 ∷ []) ∷ (blank ∷ []) ∷ (2 ∷ []) ∷ [])

-- 16 shafts of depth 16, full of blanks
abbrev pub all_blank : Store
all_blank = store_of 16 (replicate 16 (replicate 16 blank))

-- three shafts of depths 3, 2 and 2, e 2: row 1 of shaft 0 never changes, and no other; that row equal, and changed
abbrev pub uneven : Store
uneven = uneven_of (3 ∷ 2 ∷ 2 ∷ []) ((1 ∷ 2 ∷ 3 ∷ []) ∷ (4 ∷ []) ∷ (5 ∷ []) ∷ [])

abbrev pub uneven_mixed : Store
uneven_mixed = uneven_of (3 ∷ 2 ∷ 2 ∷ []) ((1 ∷ 3 ∷ []) ∷ (2 ∷ 4 ∷ []) ∷ (5 ∷ []) ∷ [])

abbrev pub uneven_changed : Store
uneven_changed = uneven_of (3 ∷ 2 ∷ 2 ∷ []) ((4 ∷ 2 ∷ 3 ∷ []) ∷ (1 ∷ []) ∷ (5 ∷ []) ∷ [])

-- the same cassettes, the last shaft deeper
abbrev pub uneven_deeper : Store
uneven_deeper = uneven_of (3 ∷ 2 ∷ 3 ∷ []) ((1 ∷ 2 ∷ 3 ∷ []) ∷ (4 ∷ []) ∷ (5 ∷ []) ∷ [])

-- two shafts of depths 3 and 1, the same reading, and another
abbrev pub two_uneven : Store
two_uneven = uneven_of (3 ∷ 1 ∷ []) ((1 ∷ 2 ∷ []) ∷ (3 ∷ []) ∷ [])

abbrev pub two_uneven_shifted : Store
two_uneven_shifted = uneven_of (3 ∷ 1 ∷ []) ((1 ∷ 2 ∷ 3 ∷ []) ∷ [] ∷ [])

abbrev pub two_uneven_turned : Store
two_uneven_turned = uneven_of (3 ∷ 1 ∷ []) ((1 ∷ 3 ∷ 2 ∷ []) ∷ [] ∷ [])

-- a cassette past 255
abbrev pub past : Store
past = store_of 2 ((300 ∷ []) ∷ [])

-- the example with cassette 2 lifted to shaft 1
abbrev pub example_lifted : Store
example_lifted = store_of 2 ((1 ∷ []) ∷ (2 ∷ []) ∷ (3 ∷ []) ∷ [])

abbrev pub table : List Claim
table =
    yes_by bare [] bare
    ∷ space_is bare 0
    ∷ yes_by one_shaft [] one_shaft
    ∷ unreachable one_shaft one_shaft_turned
    ∷ yes_by two (0x01 ∷ []) two_shifted
    ∷ unreachable two two_turned
    ∷ yes_by singles (0x02 ∷ 0x10 ∷ 0x21 ∷ []) singles_exchanged
    ∷ yes_by full [] full
    ∷ unreachable full full_exchanged
    ∷ unreachable nine nine_bottom_changed
    ∷ yes_by nine nine_list nine_bottom_equal
    -- "A lift from an empty shaft to a full one: 13."
    ∷ lift_gets (store_of 1 ([] ∷ (1 ∷ []) ∷ [])) 0 1 13
    -- "Empty image: 2. The example with last byte 61: 7; without it: 2."
    ∷ reading_gets [] 2
    ∷ image_is 0 (0x02 ∷ 0x11 ∷ 0x00 ∷ 0x81 ∷ 0x00 ∷ 0x20 ∷ 0x60 ∷ []) example
    ∷ reading_gets (0x02 ∷ 0x11 ∷ 0x00 ∷ 0x81 ∷ 0x00 ∷ 0x20 ∷ 0x61 ∷ []) 7
    ∷ reading_gets (0x02 ∷ 0x11 ∷ 0x00 ∷ 0x81 ∷ 0x00 ∷ 0x20 ∷ []) 2
    -- one, two and three shafts with blanks
    ∷ yes_by one_blank [] one_blank
    ∷ unreachable one_blank one_blank_turned
    ∷ yes_by two_blank (0x01 ∷ []) two_blank_shifted
    ∷ unreachable two_blank two_blank_turned
    ∷ yes_by three_blank (0x02 ∷ 0x10 ∷ []) three_blank_mixed
    ∷ unreachable three_blank three_blank_changed
    -- "number 9 compares how often each number stands"
    ∷ pair_gets three_blank three_blank_fewer 9
    -- "Number 5 no longer applies to it": two blanks, and two cassettes 254
    ∷ image_is 0 (0x00 ∷ 0x11 ∷ 0x7F ∷ 0xFF ∷ 0x80 ∷ []) (store_of 2 ((blank ∷ blank ∷ []) ∷ []))
    ∷ reading_gets (0x00 ∷ 0x11 ∷ 0x7F ∷ 0x7F ∷ 0x00 ∷ []) 5
    -- "A store may now hold 256 cassettes .. and the program lends 18,432 bytes"
    ∷ yes_by all_blank [] all_blank
    ∷ space_is all_blank 18432
    -- two and three shafts of unequal depth
    ∷ yes_by two_uneven (0x10 ∷ []) two_uneven_shifted
    ∷ unreachable two_uneven two_uneven_turned
    ∷ yes_by uneven (0x01 ∷ 0x02 ∷ 0x10 ∷ 0x10 ∷ 0x21 ∷ 0x01 ∷ []) uneven_mixed
    ∷ unreachable uneven uneven_changed
    -- "In 4hn + 8n, h is the deepest shaft", "8 is given if any depth differs"
    ∷ space_is uneven 100
    ∷ pair_gets uneven uneven_deeper 8
    -- "3, 12 and 14 use the shaft's own depth"
    ∷ lift_gets two_uneven 0 1 14
    ∷ lift_gets two_uneven 1 0 0
    ∷ lift_gets (uneven_of (17 ∷ 1 ∷ []) ((1 ∷ 2 ∷ []) ∷ (3 ∷ []) ∷ [])) 1 0 12
    ∷ lift_gets (uneven_of (3 ∷ 1 ∷ 1 ∷ []) ((1 ∷ 2 ∷ []) ∷ (3 ∷ []) ∷ [])) 1 0 12
    ∷ reading_gets (0x11 ∷ 0x20 ∷ 0x00 ∷ 0x80 ∷ 0x40 ∷ 0x80 ∷ []) 3
    -- an image in form 1
    ∷ image_is 1 (0x12 ∷ 0x21 ∷ 0x80 ∷ 0x81 ∷ 0x01 ∷ 0x88 ∷ 0x41 ∷ 0x04 ∷ 0x20 ∷ 0xA0 ∷ []) uneven
    -- the same store in form 2, and the example in forms 1 and 2: "compared by what they mean", each "gives its own bytes" in its form
    ∷ image_is 2 (0x22 ∷ 0x21 ∷ 0x80 ∷ 0x08 ∷ 0x01 ∷ 0x00 ∷ 0x18 ∷ 0x84 ∷ 0x01 ∷ 0x04 ∷ 0x20 ∷ 0x0A ∷ []) uneven
    ∷ image_is 1 (0x12 ∷ 0x11 ∷ 0x00 ∷ 0x81 ∷ 0x08 ∷ 0x04 ∷ 0x20 ∷ 0x60 ∷ []) example
    ∷ image_is 2 (0x22 ∷ 0x11 ∷ 0x00 ∷ 0x08 ∷ 0x01 ∷ 0x08 ∷ 0x04 ∷ 0x20 ∷ 0x06 ∷ []) example
    -- "an image may now have 403": 256 cassettes in form 2, and the same in forms 1 and 0
    ∷ length_is 2 all_blank 403
    ∷ length_is 1 all_blank 275
    ∷ length_is 0 all_blank 268
    -- "in forms 0 and 1 the byte 255 is read as the blank, while in form 2 it is an ordinary cassette"
    ∷ image_is 1 (0x10 ∷ 0x11 ∷ 0x7F ∷ 0x7F ∷ 0x80 ∷ []) (store_of 2 ((254 ∷ blank ∷ []) ∷ []))
    ∷ image_is 2 (0x20 ∷ 0x11 ∷ 0x07 ∷ 0xF7 ∷ 0xFF ∷ 0x80 ∷ []) (store_of 2 ((254 ∷ blank ∷ []) ∷ []))
    ∷ image_is 2 (0x20 ∷ 0x11 ∷ 0x07 ∷ 0xFF ∷ 0xFF ∷ 0x80 ∷ []) (store_of 2 ((255 ∷ blank ∷ []) ∷ []))
    ∷ image_is 2 (0x20 ∷ 0x11 ∷ 0x7F ∷ 0xFF ∷ 0xFF ∷ 0x80 ∷ []) (store_of 2 ((blank ∷ blank ∷ []) ∷ []))
    ∷ reading_gets (0x20 ∷ 0x11 ∷ 0x07 ∷ 0xF8 ∷ 0x7F ∷ 0x80 ∷ []) 5
    -- numbers that leave one remainder by 64 are different cassettes
    ∷ image_is 2 (0x20 ∷ 0x11 ∷ 0x02 ∷ 0x07 ∷ 0xE0 ∷ 0x00 ∷ []) (store_of 2 ((64 ∷ 4032 ∷ []) ∷ []))
    ∷ pair_gets (store_of 2 ((64 ∷ []) ∷ [])) (store_of 2 ((4032 ∷ []) ∷ [])) 9
    -- "Number 1 covers forms above 2, read or named for writing"
    ∷ reading_gets (0x32 ∷ 0x11 ∷ 0x00 ∷ 0x08 ∷ 0x01 ∷ 0x08 ∷ 0x04 ∷ 0x20 ∷ 0x06 ∷ []) 1
    ∷ writing_gets 3 example 500 1
    -- "number 4 also covers a number above 4,095 in a store value", and "Writing tests the store, then 1, 18, 10"
    ∷ writing_gets 3 (store_of 2 ((4096 ∷ []) ∷ [])) 500 4
    ∷ writing_gets 3 past 500 1
    ∷ writing_gets 1 past 500 18
    ∷ writing_gets 0 past 0 18
    ∷ writing_gets 2 past 500 0
    ∷ writing_gets 2 past 3 10
    ∷ writing_gets 0 uneven 500 18
    ∷ writing_gets 1 uneven 500 0
    -- a lift "of the cassette named", and sightings of "the top cassette of the first shaft, or 0 for an empty shaft"
    ∷ log_gets example (0x00 ∷ 0x10 ∷ 0x02 ∷ 0x11 ∷ 0x00 ∷ 0x02 ∷ 0x10 ∷ 0x00 ∷ 0x01 ∷ []) 3 0 example_lifted
    ∷ log_gets example (0x11 ∷ 0x00 ∷ 0x00 ∷ []) 1 0 example
    ∷ log_gets example [] 0 0 example
    -- "the first entry that can't be true, counted from 0, with the store before that entry"; "20, a wrong number"
    ∷ log_gets example (0x00 ∷ 0x10 ∷ 0x02 ∷ 0x00 ∷ 0x10 ∷ 0x03 ∷ 0x11 ∷ 0x00 ∷ 0x02 ∷ []) 1 20 example_lifted
    ∷ log_gets example (0x11 ∷ 0x00 ∷ 0x02 ∷ []) 0 20 example
    ∷ log_gets example (0x10 ∷ 0x00 ∷ 0x00 ∷ []) 0 20 example
    -- "tested after 19, 13 and 14"
    ∷ log_gets example (0x01 ∷ 0x00 ∷ 0x09 ∷ []) 0 13 example
    ∷ log_gets example (0x02 ∷ 0x00 ∷ 0x09 ∷ []) 0 14 example
    -- "a kind above 1, a shaft not below m, a sighting with a second shaft, or a lift with one shaft twice"
    ∷ log_gets example (0x20 ∷ 0x10 ∷ 0x02 ∷ []) 0 19 example
    ∷ log_gets example (0x13 ∷ 0x00 ∷ 0x00 ∷ []) 0 19 example
    ∷ log_gets example (0x00 ∷ 0x30 ∷ 0x02 ∷ []) 0 19 example
    ∷ log_gets example (0x11 ∷ 0x10 ∷ 0x00 ∷ []) 0 19 example
    ∷ log_gets example (0x01 ∷ 0x10 ∷ 0x00 ∷ []) 0 19 example
    -- "a length that isn't a multiple of 3 (tested before any entry)"; "a refused store, then a wrong length"
    ∷ log_gets example (0x00 ∷ 0x10 ∷ 0x02 ∷ 0x11 ∷ []) 0 19 example
    ∷ log_gets example (0x11 ∷ 0x00 ∷ 0x02 ∷ 0x00 ∷ []) 0 19 example
    ∷ log_gets (store_of 2 ((0 ∷ []) ∷ [])) (0x10 ∷ []) 0 4 (store_of 2 ((0 ∷ []) ∷ []))
    -- in a log too 4,095 is the blank, and 255 is a cassette; 14 is by the shaft's own depth
    ∷ log_gets (store_of 2 ((1 ∷ blank ∷ []) ∷ [] ∷ [])) (0x00 ∷ 0x1F ∷ 0xFF ∷ 0x11 ∷ 0x00 ∷ 0xFF ∷ []) 1 20 (store_of 2 ((1 ∷ []) ∷ (blank ∷ []) ∷ []))
    ∷ log_gets two_uneven (0x00 ∷ 0x10 ∷ 0x02 ∷ []) 0 14 two_uneven
    ∷ []
