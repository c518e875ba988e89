-- Two stores together: number 8 (request 7/13) and number 9 (request 5/13). 0 is no fault.
use Rattle.std.specs.Prelude.{Bool, true, false, not, ◌&&◌, List, [], ◌∷◌, ◌≡◌, ℕ, eqb}
use Rattle.stacks.specs.Count.{count}
use Rattle.marks.specs.Cassettes.{given, first}
use Rattle.store.specs.declared.Store.{Store}
use Rattle.store.specs.Slots.{SameFrame, cassettes}
use Rattle.store.specs.Accept.{Accepted, store_fault}

-- equality of lists
unfoldable pub same_list : List ℕ → List ℕ → Bool
same_list [] [] = true
same_list [] (y ∷ r) = false
same_list (x ∷ l) [] = false
same_list (x ∷ l) (y ∷ r) = eqb x y && same_list l r

-- Start and goal differ in m, or "any depth differs" (request 7/13).
unfoldable pub same_frame : Store → Store → Bool
unfolding same_list
same_frame s t = eqb s.m t.m && same_list s.depths t.depths

abbrev pub frame_fault : Store → Store → ℕ
frame_fault s t = given (not (same_frame s t)) 8

-- every number of a list stands as often in the one list as in the other
unfoldable pub agree_on : List ℕ → List ℕ → List ℕ → Bool
agree_on [] k l = true
agree_on (c ∷ r) k l = eqb (count c k) (count c l) && agree_on r k l

-- "number 9 compares how often each number stands" (request 5/13)
unfoldable pub cassettes_fault : Store → Store → ℕ
unfolding agree_on
cassettes_fault s t =
    given (not (agree_on (cassettes s) (cassettes s) (cassettes t) && agree_on (cassettes t) (cassettes s) (cassettes t))) 9

-- "For two stores: the start, the goal, 8, 9"
unfoldable pub pair_fault : Store → Store → ℕ
unfolding same_frame cassettes_fault
pair_fault s t = first (store_fault s) (first (store_fault t) (first (frame_fault s t) (cassettes_fault s t)))

-- every number stands as often in the one store as in the other
abbrev pub SameCassettes : Store → Store → Type 0
SameCassettes s t = (c : ℕ) → count c (cassettes s) ≡ count c (cassettes t)

-- "two have equal shafts, depth and cassettes if neither 8 nor 9 applies"
pub record Comparable (s t : Store) : Type 0 where
  pub start : Accepted s
  pub goal : Accepted t
  pub frame : SameFrame s t
  pub cassettes : SameCassettes s t
