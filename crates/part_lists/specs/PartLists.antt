-- Lists made for the shafts of a set as a store of their own, and written with the store's own shafts (document 02, 10/13).
use Rattle.std.specs.Prelude.{List, map, ◌≡◌, ℕ, ◌%◌, ◌≤◌, length, get_or}
use Rattle.lifts.specs.Bytes.{left, entered, lift_byte}
use Rattle.store.specs.declared.Store.{Store}
use Rattle.store.specs.Lists.{Leads}
use Rattle.store.specs.Slots.{list_space}
use Rattle.moves.specs.Written.{written}
use Rattle.parts.specs.Parts.{part}
use Rattle.parts.specs.PartOf.{outward}
use Rattle.within.specs.Within.{InTurn}

-- the byte of a lift with the names of its shafts
abbrev pub renamed : List ℕ → ℕ → ℕ
renamed names b = lift_byte (get_or names (left b) 0 % 16) (get_or names (entered b) 0 % 16)

-- A list was made that leads from the part of s to the part of t, and written with the names of its shafts.
pub record PartMade (some : ℕ) (s t : Store) (came : List ℕ) (n : ℕ) (out : List ℕ) : Type 0 where
  pub lifts : List ℕ
  pub leads : Leads (part some s) lifts (part some t)
  pub count : n ≡ length lifts
  pub short : n ≤ list_space (part some s)
  pub bytes : out ≡ written came 0 (map (outward some s) lifts)
  pub nothing : s ≡ t → n ≡ 0

-- A list was made that leads from s to t, with the lifts of each set of a row in turn.
pub record RowMade (row : List ℕ) (s t : Store) (came : List ℕ) (n : ℕ) (out : List ℕ) : Type 0 where
  pub lifts : List ℕ
  pub leads : Leads s lifts t
  pub turn : InTurn row lifts
  pub count : n ≡ length lifts
  pub short : n ≤ list_space s
  pub bytes : out ≡ written came 0 lifts
  pub nothing : s ≡ t → n ≡ 0
