-- When number 12 applies to the arrays of a store (document 01, "Refused because of the input"): m or a depth outside 1 to 16 (request 7/13), "or something
-- recorded above a shaft's height or for a shaft not below m".
use Rattle.std.specs.Prelude.{Bool, true, cond, ◌&&◌, ◌||◌, List, ℕ, zero, suc, leb, ltb, eqb}
use Rattle.marks.specs.Cassettes.{given}
use Rattle.lifts.specs.Lifting.{most_shafts, most_rows, height_in, shown}
use Rattle.depths.specs.Depths.{depth_by}

-- a test of every number below n
unfoldable pub all_below : ℕ → (ℕ → Bool) → Bool
all_below zero p = true
all_below (suc n) p = all_below n p && p n

-- how many slots of shaft x may hold something: as many as its height says, none where the shaft is not below m
abbrev pub fillable : ℕ → List ℕ → ℕ → ℕ
fillable m heights x = given (ltb x m) (height_in heights x)

-- row k + 1 of shaft x holds nothing, or may hold something
abbrev pub slot_in_place : ℕ → List ℕ → List ℕ → ℕ → ℕ → Bool
slot_in_place m heights slots x k = ltb k (fillable m heights x) || eqb (shown slots x (suc k)) 0

-- nothing is recorded above the height of shaft x, nor for it where it is not below m
unfoldable pub rows_in_place : ℕ → List ℕ → List ℕ → ℕ → Bool
unfolding all_below
rows_in_place m heights slots x = leb (height_in heights x) (fillable m heights x) && all_below most_rows (slot_in_place m heights slots x)

-- 1 to 16
abbrev pub in_range : ℕ → Bool
in_range k = ltb 0 k && leb k 16

-- "12 refuses one outside 1 to 16" (request 7/13): the depth of shaft x, and none is recorded where the shaft is not below m
abbrev pub depth_in_place : ℕ → List ℕ → ℕ → Bool
depth_in_place m depths x = cond (ltb x m) (in_range (depth_by depths x)) (eqb (depth_by depths x) 0)

abbrev pub shaft_in_place : ℕ → List ℕ → List ℕ → List ℕ → ℕ → Bool
shaft_in_place m depths heights slots x = depth_in_place m depths x && rows_in_place m heights slots x

-- m is in range, and the shafts are in place
abbrev pub arrays_in_place : ℕ → List ℕ → List ℕ → List ℕ → Bool
arrays_in_place m depths heights slots = in_range m && all_below most_shafts (shaft_in_place m depths heights slots)
