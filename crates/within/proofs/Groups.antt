-- The theorems of document 02, 13: a goal can be reached without a lift between groups exactly if each group can be reached within itself, and then by a list
-- with the lifts of each group in turn.
use mathlib.Core.List.{List, [], ◌∷◌, ◌++◌}
use mathlib.Core.Logic.{◌↔◌}
use mathlib.Core.Path.{sym, ap, subst}
use Prim.Native.Nat.{ℕ, zero, suc, ◌≤◌, ◌<◌}
use native.Mathlib.Omega.{arith}
use lib.ListN.{length, get_or, take, drop, take-append-drop}
use lib.Seq.{take-suc, take-length}
use borrow.Author.Tests.{lt-ltb}
use Rattle.stacks.specs.Count.{one}
use Rattle.store.specs.declared.Store.{Store}
use Rattle.store.specs.Lists.{Leads}
use Rattle.store.proofs.Acceptance.{accepted_shaped}
use Rattle.reach.specs.Pairs.{SameCassettes, Comparable}
use Rattle.sets.specs.Sets.{times_in, Division, Disjoint}
use Rattle.sets.proofs.RowLaws.{times_append}
use Rattle.parts.specs.Parts.{part}
use Rattle.within.specs.Within.{ReachableApart, InTurn}
use Rattle.within.specs.Rules.{AllReachable, EachReachable}
use Rattle.within.proofs.Parted.{part_cassettes}
use Rattle.within.proofs.RowTimes.{division_disjoint}
use Rattle.within.proofs.Rows.{apart_reachable, Arrived, arrived_none, arrived_more, arrived_goal}
use Rattle.within.proofs.Turns.{turn_apart}

-- a shaft is in no more of the first sets of a row than of all
times_first : (row : List ℕ) (k x : ℕ) → times_in (take k row) x ≤ times_in row x
times_first row k x = omega (arith, times_append (take k row) (drop k row) x, ap (λ (l : List ℕ). times_in l x) (take-append-drop k row))

-- the first sets of a row share no shaft where those of all of it share none
pub disjoint_first : (m : ℕ) (row : List ℕ) (k : ℕ) → Disjoint m row → Disjoint m (take k row)
disjoint_first m row k d x = omega (arith, d x, times_first row k x)

-- the first sets of a row, with one more
pub disjoint_more : (m : ℕ) (row : List ℕ) (k : ℕ) → Disjoint m row → k < length row → Disjoint m (take k row ++ (get_or row k 0 ∷ []))
disjoint_more m row k d h = subst (Disjoint m) (take-suc row k 0 h) (disjoint_first m row (suc k) d)

-- a list that leads to the goal, in turn
pub record ReachedInTurn (row : List ℕ) (s t : Store) : Type 0 where
  pub lifts : List ℕ
  pub leads : Leads s lifts t
  pub turn : InTurn row lifts

-- the sets before one of a row brought to the goal
record ArrivedSome (row : List ℕ) (s t : Store) : Type 0 where
  mid : Store
  lifts : List ℕ
  arrived : Arrived row s t mid lifts

some_arrived : {row : List ℕ} {s t mid : Store} {lifts : List ℕ} → Arrived row s t mid lifts → ArrivedSome row s t
some_arrived {mid = mid} {lifts} a = record { mid = mid; lifts = lifts; arrived = a }

module _ (row : List ℕ) (s t : Store) (p : Comparable s t) (d : Disjoint s.m row) where
  arrive : EachReachable row s t → (k : ℕ) → k ≤ length row → ArrivedSome (take k row) s t
  arrive r zero h = record { mid = s; lifts = []; arrived = arrived_none t (accepted_shaped s p.start) }
  arrive r (suc k) h =
      let a = arrive r k (omega arith) in
      let g = get_or row k 0 in
      let b = arrived_more g p (disjoint_more s.m row k d (omega arith)) a.arrived (r.each k (omega arith)).leads in
      subst (λ (l : List ℕ). ArrivedSome l s t) (sym (take-suc row k 0 (omega arith))) (some_arrived b)

  pub each_reaches : EachReachable row s t → ReachedInTurn row s t
  each_reaches r =
      let a = arrive r (length row) (omega arith) in
      let b : Arrived row s t a.mid a.lifts = subst (λ (l : List ℕ). Arrived l s t a.mid a.lifts) (take-length row) a.arrived in
      record { lifts = a.lifts; leads = subst (Leads s a.lifts) (arrived_goal p r.elsewhere b) b.leads; turn = b.turn }

  pub apart_exactly : ReachableApart row s t ↔ EachReachable row s t
  apart_exactly = (
    apart_reachable (accepted_shaped s p.start) d,
    λ r. let l = each_reaches r in record { lifts = l.lifts; leads = l.leads; apart = turn_apart l.turn },
  )

-- "any list without a lift between groups can be sorted by group"
pub sorted_by_group : (row : List ℕ) (s t : Store) → Comparable s t → Disjoint s.m row → ReachableApart row s t → ReachedInTurn row s t
sorted_by_group row s t p d r = each_reaches row s t p d ((apart_exactly row s t p d).0 r)

-- for groups that divide the shafts: "it is reachable exactly if each group is reachable within itself"
pub groups_exactly : (groups : List ℕ) (s t : Store) → Comparable s t → Division s.m groups → ReachableApart groups s t ↔ AllReachable groups s t
groups_exactly groups s t p d =
    let e = apart_exactly groups s t p (division_disjoint s.m groups d) in (
      λ r. (e.0 r).each,
      λ r. e.1 (record { elsewhere = λ x h z. absurd (omega (arith, z, d x, ap one (lt-ltb x s.m h))); each = r }),
    )

-- so the cassettes of each are the same: a group whose cassettes differ can't be reached
pub group_cassettes : (row : List ℕ) (s t : Store) (p : Comparable s t) (d : Disjoint s.m row) (i : ℕ) → i < length row → ReachableApart row s t
    → SameCassettes (part (get_or row i 0) s) (part (get_or row i 0) t)
group_cassettes row s t p d i h r = part_cassettes (get_or row i 0) s t p (((apart_exactly row s t p d).0 r).each i h)
