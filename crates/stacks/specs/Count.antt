-- Sums over the shafts, the greatest of them, and how often a number stands in a list or in the stacks.
use Rattle.std.specs.Prelude.{List, [], ◌∷◌, ℕ, zero, suc, ◌+◌, ◌-◌, max, length, drop, eqb, Bool, true, false}
use Rattle.stacks.specs.Run.{Stacks}

-- f 0 + .. + f (m - 1)
unfoldable pub sum : ℕ → (ℕ → ℕ) → ℕ
sum zero f = 0
sum (suc m) f = sum m f + f m

-- the greatest of f 0 .. f (m - 1)
unfoldable pub greatest : ℕ → (ℕ → ℕ) → ℕ
greatest zero f = 0
greatest (suc m) f = max (greatest m f) (f m)

abbrev pub one : Bool → ℕ
one true = 1
one false = 0

-- how often c stands in a list
unfoldable pub count : ℕ → List ℕ → ℕ
count c [] = 0
count c (x ∷ l) = one (eqb c x) + count c l

-- how often c stands in m shafts
unfoldable pub occurrences : ℕ → ℕ → Stacks → ℕ
unfolding sum count
occurrences m c S = sum m (λ i. count c (S i))

-- how many cassettes m shafts hold
unfoldable pub total : ℕ → Stacks → ℕ
unfolding sum
total m S = sum m (λ i. length (S i))

-- how many slots of m shafts with depths d are empty
unfoldable pub empties : ℕ → (ℕ → ℕ) → Stacks → ℕ
unfolding sum total
empties m d S = sum m d - total m S

-- the lowest k of a stack
unfoldable pub lowest : ℕ → List ℕ → List ℕ
lowest k l = drop (length l - k) l
