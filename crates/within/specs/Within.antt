-- Lists of lifts that keep to some shafts, and to groups of them (document 02, 10/13).
use Rattle.std.specs.Prelude.{true, List, [], ◌∷◌, ◌++◌, ◌≡◌, ℕ, ◌<◌, length, get_or}
use Rattle.lifts.specs.Bytes.{left, entered}
use Rattle.store.specs.declared.Store.{Store}
use Rattle.store.specs.Lists.{Leads}
use Rattle.sets.specs.Sets.{has}

-- something holds of each lift of a list
pub data Each (P : ℕ → Type 0) : List ℕ → Type 0 where
  none : Each P []
  more : {b : ℕ} {bs : List ℕ} → P b → Each P bs → Each P (b ∷ bs)

-- "No lift may leave or enter a locked shaft": both shafts of a lift are in the set
abbrev pub Inside : ℕ → ℕ → Type 0
Inside opened b = (has opened (left b) ≡ true) × (has opened (entered b) ≡ true)

-- Some "legal list within the open shafts leads to the goal".
pub record ReachableWithin (opened : ℕ) (start goal : Store) : Type 0 where
  pub lifts : List ℕ
  pub leads : Leads start lifts goal
  pub inside : Each (Inside opened) lifts

-- no "lift between groups": both shafts of a lift are in one group of the row
pub record InOne (groups : List ℕ) (b : ℕ) : Type 0 where
  pub place : ℕ
  pub there : place < length groups
  pub inside : Inside (get_or groups place 0) b

-- Some "legal list without a lift between groups leads to the goal".
pub record ReachableApart (groups : List ℕ) (start goal : Store) : Type 0 where
  pub lifts : List ℕ
  pub leads : Leads start lifts goal
  pub apart : Each (InOne groups) lifts

-- "no lift between groups, all lifts of each group before those of the next in the row"
pub data InTurn : List ℕ → List ℕ → Type 0 where
  none : InTurn [] []
  next : {group : ℕ} {groups own rest : List ℕ} → Each (Inside group) own → InTurn groups rest → InTurn (group ∷ groups) (own ++ rest)
