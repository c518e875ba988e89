-- What the list maker promises (document 01, "Which comes first", and request 6/13; demand 3): for each value of the answer, what it says of the two stores
-- and the lent bytes, and what it leaves in them. No two values can be right at once, but for the count of a list, since which list is free (`proofs/PlanExact.antt`).
use Rattle.std.specs.Prelude.{List, ◌≡◌, ℕ, ◌≤◌, ◌<◌, length, Result, Ok, Err}
use Rattle.store.specs.declared.Store.{Store}
use Rattle.store.specs.Slots.{list_space}
use Rattle.store.specs.Lists.{Leads, Reachable}
use Rattle.reach.specs.Pairs.{Comparable}
use Rattle.moves.specs.Written.{written}
use Rattle.pairs.specs.Promises.{Faulty}
use Rattle.plans.specs.declared.PlanFault.{PlanFault}

-- First the faults of the two stores. Then 15 where no list of any length leads from start to goal, whatever is lent. Where one does, 10 if less than
-- 4hn + 8n bytes are lent, and else a list. "When both apply, 15 shall be given, since no buffer cures it." (Request 6/13.)
abbrev pub PlanSays : Store → Store → List ℕ → Result ℕ PlanFault → Type 0
PlanSays s t came (Err (PlanFault.Refused f)) = Faulty s t f
PlanSays s t came (Err PlanFault.Unreachable) = Comparable s t × (Reachable s t → ⊥)
PlanSays s t came (Err PlanFault.LittleSpace) = Comparable s t × (Reachable s t × (length came < list_space s))
PlanSays s t came (Ok n) = Comparable s t × (Reachable s t × (list_space s ≤ length came))

-- Some list leads from start to goal, within the list space; which one is left free. "the count returned is the number of lifts in the list"; it "fills
-- the first bytes of the lent space, the rest stay as they came". "Start equal to goal gives the empty list."
pub record Lists (s t : Store) (came out : List ℕ) (n : ℕ) : Type 0 where
  pub lifts : List ℕ
  pub leads : Leads s lifts t
  pub count : n ≡ length lifts
  pub short : length lifts ≤ list_space s
  pub bytes : out ≡ written came 0 lifts
  pub nothing : s ≡ t → n ≡ 0

-- A list of n lifts was made; or, "a refusal returns its number and writes to no lent buffer".
abbrev pub PlanLeaves : Store → Store → List ℕ → List ℕ → Result ℕ PlanFault → Type 0
PlanLeaves s t came out (Ok n) = Lists s t came out n
PlanLeaves s t came out (Err f) = out ≡ came

pub record PlanIs (s t : Store) (came out : List ℕ) (r : Result ℕ PlanFault) : Type 0 where
  pub answer : PlanSays s t came r
  pub left : PlanLeaves s t came out r
