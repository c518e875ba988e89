-- The depths of the shafts ("A store carries a depth for each shaft": document 02, 7/13), the list space that they ask for, and which slots there are.
use Rattle.std.specs.Prelude.{Bool, ◌&&◌, List, ◌≡◌, ℕ, ◌+◌, ◌*◌, ◌≤◌, ◌<◌, leb, ltb, get_or}
use Rattle.lifts.specs.Lifting.{most_shafts, most_rows}

-- the depth of shaft x
unfoldable pub depth_by : List ℕ → ℕ → ℕ
depth_by depths x = get_or depths x 0

-- The depths of m shafts that are all h deep.
pub record Equal (m h : ℕ) (depths : List ℕ) : Type 0 where
  pub below : (x : ℕ) → x < m → x < most_shafts → depth_by depths x ≡ h
  pub beyond : (x : ℕ) → m ≤ x → depth_by depths x ≡ 0

-- no shaft is deeper than the arrays have rows
abbrev pub DepthsFit : List ℕ → Type 0
DepthsFit depths = (x : ℕ) → depth_by depths x ≤ most_rows

-- "The list space needed is 4hn + 8n bytes"; "h is the deepest shaft" (document 02, 7/13): its depth
abbrev pub space_for : ℕ → ℕ → ℕ
space_for h n = 4 * h * n + 8 * n

-- there is a row y of shaft x: by m and the shaft's depth, and within the 16 by 16 slots that any value records
abbrev pub slot_there : ℕ → List ℕ → ℕ → ℕ → Bool
slot_there m depths x y = ((ltb x m && ltb x most_shafts) && ltb 0 y) && (leb y (depth_by depths x) && leb y most_rows)
