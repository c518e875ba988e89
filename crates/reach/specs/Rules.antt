-- The rules of document 01, "Which goals can be reached".
use Rattle.std.specs.Prelude.{List, ◌++◌, ◌≡◌, ℕ, zero, suc, ◌-◌, ◌<◌}
use Rattle.store.specs.declared.Store.{Store}
use Rattle.store.specs.Slots.{depth, height, upward, downward, empty_count}

-- "m = 2: read shaft 0 upward, then shaft 1 downward."
unfoldable pub two_shaft_reading : Store → List ℕ
two_shaft_reading s = upward s 0 (height s 0) ++ downward s 1 (height s 1)

-- The floor of shaft x, which never changes: how many there are of "rows 1 to (depth of that shaft) − e" (document 02, 7/13), none if e is as much as the depth.
-- Other rows may never change either: of depths 1, 1 and 3 with one cassette, rows 2 and 3 of the last are always empty.
unfoldable pub floor : Store → ℕ → ℕ
floor s x = depth s x - empty_count s

-- "m ≥ 3: .. Reachable exactly if these rows agree."
abbrev pub SameFloors : Store → Store → Type 0
SameFloors s t = (x : ℕ) → x < s.m → upward s x (floor s x) ≡ upward t x (floor s x)

-- "m = 1: only the start itself. m = 2: .. both stores read the same. m ≥ 3: .. these rows agree."
abbrev pub RuleFor : ℕ → Store → Store → Type 0
RuleFor zero s t = s ≡ t
RuleFor (suc zero) s t = s ≡ t
RuleFor (suc (suc zero)) s t = two_shaft_reading s ≡ two_shaft_reading t
RuleFor (suc (suc (suc k))) s t = SameFloors s t

abbrev pub Rule : Store → Store → Type 0
Rule s t = RuleFor s.m s t
