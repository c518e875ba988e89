-- Which lists of lifts a caller allows (document 02, 10/13), by cases: when 21 does not apply, what it is that a goal can be reached, and what a list made
-- keeps to.
use Rattle.std.specs.Prelude.{List, ℕ}
use Rattle.store.specs.declared.Store.{Store}
use Rattle.store.specs.Lists.{Reachable}
use Rattle.sets.specs.Sets.{Fits, Division, Disjoint}
use Rattle.within.specs.Within.{Each, Inside, ReachableWithin, ReachableApart, InTurn}

-- Any list; one within a set of open shafts; one without a lift between groups that divide the shafts; and, for what is shared by these, one without a lift
-- between sets that share no shaft and may leave some out.
pub data Bounds : Type 0 where
  whole : Bounds
  within : ℕ → Bounds
  groups : List ℕ → Bounds
  apart : List ℕ → Bounds

-- "21, a bit set for a shaft not below m, or groups that overlap or miss a shaft": it does not apply
abbrev pub Fitting : Bounds → ℕ → Type 0
Fitting whole m = Unit
Fitting (within opened) m = Fits m opened
Fitting (groups row) m = Division m row
Fitting (apart row) m = Disjoint m row

-- some list that is allowed leads from start to goal
abbrev pub Can : Bounds → Store → Store → Type 0
Can whole s t = Reachable s t
Can (within opened) s t = ReachableWithin opened s t
Can (groups row) s t = ReachableApart row s t
Can (apart row) s t = ReachableApart row s t

-- what a list made keeps to: of groups, also "all lifts of each group before those of the next in the row"
abbrev pub Keeps : Bounds → List ℕ → Type 0
Keeps whole lifts = Unit
Keeps (within opened) lifts = Each (Inside opened) lifts
Keeps (groups row) lifts = InTurn row lifts
Keeps (apart row) lifts = InTurn row lifts
