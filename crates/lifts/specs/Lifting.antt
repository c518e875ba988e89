-- One lift in the heights and the slots of a store (document 000, Definition 3.2; document 01, "The store"): which number refuses it, the two slots that
-- change, and every other slot as it was.
use Rattle.std.specs.Prelude.{not, ◌&&◌, List, ℕ, zero, suc, ◌+◌, ◌-◌, ◌*◌, leb, ltb, eqb, get_or, set}
use Rattle.marks.specs.Cassettes.{given, first}

-- how many shafts have a height, how many rows each has, and how many slots that makes
abbrev pub most_shafts : ℕ
most_shafts = 16

abbrev pub most_rows : ℕ
most_rows = 16

abbrev pub slot_count : ℕ
slot_count = 256

-- "The height of a shaft is how many cassettes it has": as the heights state it
abbrev pub height_in : List ℕ → ℕ → ℕ
height_in heights x = get_or heights x 0

-- What row y of shaft x shows, 0 for empty: 16 slots for a shaft, from row 1 at the bottom. "Rows count from 1": there is no row 0.
unfoldable pub shown : List ℕ → ℕ → ℕ → ℕ
shown slots x zero = 0
shown slots x (suc k) = get_or slots (16 * x + k) 0

-- the slots with c at row y of shaft x
unfoldable pub placed_at : List ℕ → ℕ → ℕ → ℕ → List ℕ
placed_at slots x zero c = slots
placed_at slots x (suc k) c = set slots (16 * x + k) c

-- "11. A lift names a shaft not below m, or one shaft twice. 13. The shaft left is empty. 14. The shaft entered is full." 0: it is allowed. For m shafts,
-- the shafts a and b with these heights, and the depth of b.
unfoldable pub refusal_by : ℕ → ℕ → ℕ → ℕ → ℕ → ℕ → ℕ
refusal_by m d a b left entered =
    first (given (not ((ltb a m && ltb b m) && not (eqb a b))) 11) (first (given (eqb left 0) 13) (given (leb d entered) 14))

-- After a lift from a to b the top slot of a is empty, the slot above the top of b holds its cassette, "every other slot keeps its content".
abbrev pub heights_after : List ℕ → ℕ → ℕ → List ℕ
heights_after heights a b = set (set heights a (height_in heights a - 1)) b (height_in heights b + 1)

abbrev pub slots_after : List ℕ → List ℕ → ℕ → ℕ → List ℕ
slots_after heights slots a b =
    placed_at (placed_at slots a (height_in heights a) 0) b (suc (height_in heights b)) (shown slots a (height_in heights a))
