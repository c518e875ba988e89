-- The store, slot by slot (document 000, Definition 3.1; document 01, "The store"). A store value has m shafts, counted from 0; a
-- depth (document 02, 7/13) and a height for each shaft; and a number for each slot, 16 slots for a shaft, from row 1 at the bottom.
use Rattle.std.specs.Prelude.{Bool, cond, List, [], ◌++◌, ◌≡◌, ℕ, zero, suc, ◌-◌, length, replicate}
use Rattle.stacks.specs.Count.{sum, greatest}
use Rattle.lifts.specs.Lifting.{most_shafts, slot_count, height_in, shown}
use Rattle.depths.specs.Depths.{depth_by, space_for, slot_there}
use Rattle.rows.specs.Rows.{rows_up, rows_down}
use Rattle.store.specs.declared.Store.{Store}

-- a store of its parts
abbrev pub held : ℕ → List ℕ → List ℕ → List ℕ → Store
held m depths heights slots = record { m = m; depths = depths; heights = heights; slots = slots }

-- m shafts of these depths with no cassette
abbrev pub empty_store : ℕ → List ℕ → Store
empty_store m depths = held m depths (replicate most_shafts 0) (replicate slot_count 0)

-- the depth of shaft x
abbrev pub depth : Store → ℕ → ℕ
depth s x = depth_by s.depths x

-- the depth of the deepest shaft
unfoldable pub deepest : Store → ℕ
deepest s = greatest s.m (depth s)

-- Two stores have the same shafts and depths.
pub record SameFrame (s t : Store) : Type 0 where
  pub shafts : s.m ≡ t.m
  pub depths : s.depths ≡ t.depths

abbrev pub height : Store → ℕ → ℕ
height s x = height_in s.heights x

-- the content of shaft x at row y, 0 for empty: C(x, y) of Definition 3.1, with shafts from 0
abbrev pub slot : Store → ℕ → ℕ → ℕ
slot s x y = shown s.slots x y

-- the cassette on top of shaft x, 0 for an empty shaft
abbrev pub top_of : Store → ℕ → ℕ
top_of s x = slot s x (height s x)

-- the store has row y of shaft x
abbrev pub has_slot : Store → ℕ → ℕ → Bool
has_slot s = slot_there s.m s.depths

-- what a caller who names a shaft and a row is told: 0 where the store has no such slot
unfoldable pub content_of : Store → ℕ → ℕ → ℕ
content_of s x y = cond (has_slot s x y) (slot s x y) 0

-- rows 1 to k of shaft x, read upward and downward
abbrev pub upward : Store → ℕ → ℕ → List ℕ
upward s = rows_up s.slots

abbrev pub downward : Store → ℕ → ℕ → List ℕ
downward s = rows_down s.slots

-- what stands in shaft x, the top first
unfoldable pub stack : Store → ℕ → List ℕ
unfolding rows_down
stack s x = downward s x (height s x)

-- the cassettes of the shafts below x, in the order of an image: "for each shaft from 0 .. its cassettes from row 1 upward"
unfoldable pub cassettes_below : Store → ℕ → List ℕ
unfolding rows_up
cassettes_below s zero = []
cassettes_below s (suc x) = cassettes_below s x ++ upward s x (height s x)

unfoldable pub cassettes : Store → List ℕ
unfolding cassettes_below
cassettes s = cassettes_below s s.m

-- "n is the count of cassettes"
unfoldable pub cassette_count : Store → ℕ
unfolding cassettes
cassette_count s = length (cassettes s)

-- "e is now the sum of the depths less n" (document 02, 7/13): the count of empty slots
unfoldable pub empty_count : Store → ℕ
unfolding cassette_count
empty_count s = sum s.m (depth s) - cassette_count s

-- "The list space needed is 4hn + 8n bytes"; "h is the deepest shaft" (document 02, 7/13)
unfoldable pub list_space : Store → ℕ
unfolding cassette_count deepest
list_space s = space_for (deepest s) (cassette_count s)
