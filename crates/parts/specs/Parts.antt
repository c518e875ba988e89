-- The store of some of the shafts alone, numbered from 0 in the order of a list (document 02, 10/13). What document 01 says of a store then says it of
-- these shafts: how many they are picks the rule, and e is counted over them.
use Rattle.std.specs.Prelude.{List, [], ◌∷◌, ◌++◌, ℕ, zero, suc, ◌/◌, ◌%◌, length}
use Rattle.lifts.specs.Lifting.{most_shafts, slot_count}
use Rattle.store.specs.declared.Store.{Store}
use Rattle.store.specs.Slots.{held, depth, height, slot}
use Rattle.sets.specs.Sets.{shafts_in, shaft_at}

-- f 0 .. f (n - 1)
unfoldable pub tabulated : ℕ → (ℕ → ℕ) → List ℕ
tabulated zero f = []
tabulated (suc n) f = tabulated n f ++ (f n ∷ [])

-- the store of the shafts of a list
unfoldable pub part_over : List ℕ → Store → Store
unfolding tabulated
part_over shafts s =
    held (length shafts) (tabulated most_shafts (λ i. depth s (shaft_at shafts i))) (tabulated most_shafts (λ i. height s (shaft_at shafts i)))
    (tabulated slot_count (λ p. slot s (shaft_at shafts (p / 16)) (suc (p % 16))))

-- the store of the shafts of a set, rising
abbrev pub part : ℕ → Store → Store
part set s = part_over (shafts_in set s.m) s
