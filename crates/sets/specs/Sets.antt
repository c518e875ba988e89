-- Sets of shafts "as 16 bits, bit 0 for shaft 0", and rows of them (document 02, 10/13).
use Rattle.std.specs.Prelude.{Bool, true, cond, List, [], ◌∷◌, ◌++◌, ◌≡◌, ℕ, zero, suc, ◌+◌, ◌/◌, ◌%◌, ◌^◌, ◌≤◌, ◌<◌, ltb, eqb, length, get_or}
use Rattle.stacks.specs.Count.{one}
use Rattle.lifts.specs.Lifting.{most_shafts}
use Rattle.sets.specs.declared.Numbering.{Numbering}

-- shaft x is in the set: its bit is set
unfoldable pub has : ℕ → ℕ → Bool
has set x = eqb (set / 2 ^ x % 2) 1

-- the shafts below m that are in the set, rising
unfoldable pub shafts_in : ℕ → ℕ → List ℕ
unfolding has
shafts_in set zero = []
shafts_in set (suc x) = shafts_in set x ++ cond (has set x) (x ∷ []) []

-- the shaft at a place of a list of shafts, counted from 0; past its end 16, which is no shaft
abbrev pub shaft_at : List ℕ → ℕ → ℕ
shaft_at shafts i = get_or shafts i most_shafts

-- The shafts of a list by their new numbers: how many there are, and which shaft has which number.
pub record NumberingIs (shafts : List ℕ) (r : Numbering) : Type 0 where
  pub count : r.count ≡ length shafts
  pub sized : length r.names ≡ most_shafts
  pub names : (i : ℕ) → i < most_shafts → get_or r.names i 0 ≡ shaft_at shafts i

-- the set of all of m shafts
abbrev pub AllOf : ℕ → ℕ → Type 0
AllOf m set = (x : ℕ) → has set x ≡ ltb x m

-- no "bit set for a shaft not below m"
abbrev pub Fits : ℕ → ℕ → Type 0
Fits m set = (x : ℕ) → has set x ≡ true → x < m

-- of how many sets of a row shaft x is
unfoldable pub times_in : List ℕ → ℕ → ℕ
unfolding has
times_in [] x = 0
times_in (set ∷ row) x = one (has set x) + times_in row x

-- "a division of the shafts into disjoint groups": each shaft below m is in one group, and no bit is set for another. So the groups neither overlap
-- nor miss a shaft; an empty one does no harm.
abbrev pub Division : ℕ → List ℕ → Type 0
Division m groups = (x : ℕ) → times_in groups x ≡ one (ltb x m)

-- sets that share no shaft, of shafts below m
abbrev pub Disjoint : ℕ → List ℕ → Type 0
Disjoint m row = (x : ℕ) → times_in row x ≤ one (ltb x m)
