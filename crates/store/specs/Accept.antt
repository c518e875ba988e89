-- When a store given as a value is accepted, and else which of the numbers 12, 3, 4, 5 refuses it (document 01, "Refused because of the input"), checked
-- for 12, then for 3, 4 and 5 in image order (request 3/13). 0 is no fault.
use Rattle.std.specs.Prelude.{Bool, not, ◌&&◌, ◌≡◌, ℕ, zero, suc, length, ltb, eqb}
use Rattle.marks.specs.Cassettes.{given, first}
use Rattle.lifts.specs.Lifting.{most_shafts, slot_count}
use Rattle.in_place.specs.InPlace.{all_below, rows_in_place, arrays_in_place}
use Rattle.rows.specs.Rows.{rows_fault}
use Rattle.store.specs.declared.Store.{Store}
use Rattle.store.specs.Slots.{depth, height, cassettes_below}

-- The arrays of a store value have 16, 16 and 256 places. The types of the fields say so of every value that code can hold; here it is said of every value.
abbrev pub sized : Store → Bool
sized s = (eqb (length s.depths) most_shafts && eqb (length s.heights) most_shafts) && eqb (length s.slots) slot_count

-- number 12 does not apply
unfoldable pub in_place : Store → Bool
unfolding all_below rows_in_place
in_place s = sized s && arrays_in_place s.m s.depths s.heights s.slots

-- 3, a height above the depth of its shaft (request 7/13), and then the faults of the rows
abbrev pub shaft_fault : Store → ℕ → ℕ
shaft_fault s x = first (given (ltb (depth s x) (height s x)) 3) (rows_fault (cassettes_below s x) s.slots x (height s x))

-- the first fault of the shafts below x, in the order of an image
unfoldable pub shafts_fault : Store → ℕ → ℕ
unfolding rows_fault
shafts_fault s zero = 0
shafts_fault s (suc x) = first (shafts_fault s x) (shaft_fault s x)

-- the first fault of a store value, for every value whatever
unfoldable pub store_fault : Store → ℕ
unfolding in_place shafts_fault
store_fault s = first (given (not (in_place s)) 12) (shafts_fault s s.m)

-- none of 1 to 5, 7 and 12 applies to the store as given (request 3/13)
abbrev pub Accepted : Store → Type 0
Accepted s = store_fault s ≡ 0
