-- What is allowed and what is made agree, for each of the bounds: a list that keeps to them is allowed, and where one is allowed there is one that keeps to them.
use mathlib.Core.List.{List}
use mathlib.Core.Path.{◌≡◌, ap, ◌∙◌}
use Prim.Native.Nat.{ℕ, ◌<◌}
use borrow.Author.Tests.{lt-ltb}
use Rattle.stacks.specs.Count.{one}
use Rattle.store.specs.declared.Store.{Store}
use Rattle.store.specs.Lists.{Leads}
use Rattle.reach.specs.Pairs.{Comparable}
use Rattle.sets.specs.Sets.{times_in}
use Rattle.within.specs.Bounds.{Bounds, whole, within, groups, apart, Fitting, Can, Keeps}
use Rattle.within.proofs.Groups.{sorted_by_group}
use Rattle.within.proofs.Turns.{turn_apart, Sorted, turn_sorted}
use Rattle.within.proofs.RowTimes.{division_disjoint}

pub kept_allowed : (b : Bounds) {s t : Store} {lifts : List ℕ} → Leads s lifts t → Keeps b lifts → Can b s t
kept_allowed whole {lifts = lifts} l k = record { lifts = lifts; leads = l }
kept_allowed (within opened) {lifts = lifts} l k = record { lifts = lifts; leads = l; inside = k }
kept_allowed (groups row) {lifts = lifts} l k = record { lifts = lifts; leads = l; apart = turn_apart k }
kept_allowed (apart row) {lifts = lifts} l k = record { lifts = lifts; leads = l; apart = turn_apart k }

-- a list to make
pub record Kept (b : Bounds) (s t : Store) : Type 0 where
  pub lifts : List ℕ
  pub leads : Leads s lifts t
  pub keeps : Keeps b lifts

pub allowed_kept : (b : Bounds) (s t : Store) → Comparable s t → Fitting b s.m → Can b s t → Kept b s t
allowed_kept whole s t p f r = record { lifts = r.lifts; leads = r.leads; keeps = tt }
allowed_kept (within opened) s t p f r = record { lifts = r.lifts; leads = r.leads; keeps = r.inside }
allowed_kept (groups row) s t p f r = let l = sorted_by_group row s t p (division_disjoint s.m row f) r in record { lifts = l.lifts; leads = l.leads; keeps = l.turn }
allowed_kept (apart row) s t p f r = let l = sorted_by_group row s t p f r in record { lifts = l.lifts; leads = l.leads; keeps = l.turn }

-- groups that fit leave no shaft out
pub none_missed : (row : List ℕ) (m : ℕ) → Fitting (groups row) m → (x : ℕ) → x < m → times_in row x ≡ 1
none_missed row m f x h = f x ∙ ap one (lt-ltb x m h)

-- a list made for groups has the lifts of each before those of the next
pub kept_sorted : (row lifts : List ℕ) → Keeps (groups row) lifts → Sorted row lifts
kept_sorted row lifts k = turn_sorted k
