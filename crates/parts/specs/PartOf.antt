-- What it is to be the store of the shafts of a set, as stacks: any shaped store with their depths and their stacks, by their new numbers.
use Rattle.std.specs.Prelude.{◌≡◌, ℕ, length}
use Rattle.lifts.specs.Bytes.{left, entered, lift_byte}
use Rattle.store.specs.declared.Store.{Store}
use Rattle.store.specs.Slots.{depth, stack}
use Rattle.store.specs.Sound.{Shaped}
use Rattle.sets.specs.Sets.{shafts_in, shaft_at}

-- the shaft of a store that has the number i among those of a set
abbrev pub named : ℕ → Store → ℕ → ℕ
named some s i = shaft_at (shafts_in some s.m) i

-- the byte of a lift of these shafts, from the byte with their numbers
abbrev pub outward : ℕ → Store → ℕ → ℕ
outward some s b = lift_byte (named some s (left b)) (named some s (entered b))

pub record PartOf (some : ℕ) (s r : Store) : Type 0 where
  pub shaped : Shaped r
  pub shafts : r.m ≡ length (shafts_in some s.m)
  pub depths : (i : ℕ) → depth r i ≡ depth s (named some s i)
  pub stacks : (i : ℕ) → stack r i ≡ stack s (named some s i)
