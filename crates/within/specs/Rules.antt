-- The rules of document 01, "Which goals can be reached", within a set of open shafts (document 02, 10/13): every locked shaft is the same, and the open ones,
-- as a store of their own, obey the rule for a whole store. So their number picks the rule, and e is counted over them.
use Rattle.std.specs.Prelude.{false, List, ◌≡◌, ℕ, ◌<◌, length, get_or}
use Rattle.store.specs.declared.Store.{Store}
use Rattle.store.specs.Slots.{stack}
use Rattle.store.specs.Lists.{Reachable}
use Rattle.reach.specs.Rules.{Rule}
use Rattle.sets.specs.Sets.{has, times_in}
use Rattle.parts.specs.Parts.{part}

-- every locked shaft is the same
abbrev pub SameLocked : ℕ → Store → Store → Type 0
SameLocked opened s t = (x : ℕ) → x < s.m → has opened x ≡ false → stack s x ≡ stack t x

pub record RuleWithin (opened : ℕ) (s t : Store) : Type 0 where
  pub locked : SameLocked opened s t
  pub rule : Rule (part opened s) (part opened t)

-- every shaft that is in no set of a row is the same
abbrev pub SameElsewhere : List ℕ → Store → Store → Type 0
SameElsewhere row s t = (x : ℕ) → x < s.m → times_in row x ≡ 0 → stack s x ≡ stack t x

-- each set of a row can be reached within itself: as a store of its own
abbrev pub AllReachable : List ℕ → Store → Store → Type 0
AllReachable row s t = (i : ℕ) → i < length row → Reachable (part (get_or row i 0) s) (part (get_or row i 0) t)

pub record EachReachable (row : List ℕ) (s t : Store) : Type 0 where
  pub elsewhere : SameElsewhere row s t
  pub each : AllReachable row s t
