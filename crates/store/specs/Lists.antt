-- Lists of lifts: where a legal list leads, and reachable stores (document 01, "The list", "Which goals can be reached").
use mathlib.Core.List.{List, [], ◌∷◌, map, reverse_aux}
use Rattle.std.specs.Prelude.{ℕ}
use Rattle.stacks.specs.Run.{Lift}
use Rattle.lifts.specs.Bytes.{left, entered, lift_byte}
use Rattle.store.specs.declared.Store.{Store}
use Rattle.store.specs.Lifts.{Allowed, lifted}

-- the byte of a lift and the lift of a byte
abbrev pub byte_of : Lift → ℕ
byte_of l = lift_byte l.left l.entered

abbrev pub lift_of : ℕ → Lift
lift_of b = record { left = left b; entered = entered b }

abbrev pub lift_bytes : List Lift → List ℕ
lift_bytes ls = map byte_of ls

-- a list turned about: reversed, with the two shafts of each lift exchanged
abbrev pub turned_byte : ℕ → ℕ
turned_byte b = lift_byte (entered b) (left b)

abbrev pub backward : List ℕ → List ℕ
backward bs = reverse_aux (map turned_byte bs) []

-- "A list is legal from a store if each lift names shafts below m and is legal in the store that the lifts before it left .. It leads from start to
-- goal if it is legal from the start and ends at the goal."
pub data Leads : Store → List ℕ → Store → Type 0 where
  ended : {s : Store} → Leads s [] s
  then : {s t : Store} {b : ℕ} {bs : List ℕ} → Allowed s (left b) (entered b) → Leads (lifted s (left b) (entered b)) bs t → Leads s (b ∷ bs) t

-- "'Reachable' means that some finite list of legal lifts leads from start to goal."
pub record Reachable (start goal : Store) : Type 0 where
  pub lifts : List ℕ
  pub leads : Leads start lifts goal
