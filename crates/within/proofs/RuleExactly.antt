-- The theorem of document 02, 10: a goal can be reached within a set of open shafts exactly if the rule within the set holds.
use mathlib.Core.Bool.{false}
use mathlib.Core.List.{[], ◌∷◌}
use mathlib.Core.Logic.{◌↔◌}
use mathlib.Core.Path.{◌≡◌, sym, ap, subst}
use Prim.Native.Nat.{ℕ, zero, suc, ◌<◌}
use native.Mathlib.Decide.{ℕ_discrete}
use native.Mathlib.Omega.{arith}
use lib.ListN.{get_or}
use Rattle.stacks.specs.Count.{one}
use Rattle.store.specs.declared.Store.{Store}
use Rattle.store.specs.Lists.{Leads, ended, Reachable}
use Rattle.reach.specs.Pairs.{Comparable}
use Rattle.reach.specs.Rules.{RuleFor, Rule}
use Rattle.reach.proofs.Reachability.{reachable_exactly}
use Rattle.sets.specs.Sets.{has, times_in, Fits}
use Rattle.sets.proofs.SetLaws.{by_test}
use Rattle.parts.specs.Parts.{part}
use Rattle.within.specs.Within.{ReachableWithin}
use Rattle.within.specs.Rules.{SameLocked, RuleWithin}
use Rattle.within.proofs.Parted.{part_comparable, none_same, rest_cassettes}
use Rattle.within.proofs.RowTimes.{fits_disjoint}
use Rattle.within.proofs.OneSet.{within_apart}
use Rattle.within.proofs.Groups.{apart_exactly}

-- the rule for the part holds exactly if it can be reached, where the cassettes are the same
part_rule : (some : ℕ) (s t : Store) (p : Comparable s t) → SameLocked some s t → Reachable (part some s) (part some t) ↔ Rule (part some s) (part some t)
part_rule some s t p e =
    elim (ℕ_discrete (part some s).m 0) [
      | yes z ↦
          let same = none_same some s t p z in
          (λ r. subst (λ (m : ℕ). RuleFor m (part some s) (part some t)) (sym z) same, λ r. record { lifts = []; leads = subst (Leads (part some s) []) same ended })
      | no n ↦ reachable_exactly (part some s) (part some t) (part_comparable some s t p (omega arith) (rest_cassettes some s t p e))
    ]

-- "their number picks the reachability rule (none as one), with e counted over them"
pub within_exactly : (opened : ℕ) (s t : Store) → Comparable s t → Fits s.m opened → ReachableWithin opened s t ↔ RuleWithin opened s t
unfolding times_in
within_exactly opened s t p f =
    let row = opened ∷ [] in
    let both = apart_exactly row s t p (fits_disjoint s.m opened f) in
    let lone : (x : ℕ) → has opened x ≡ false → times_in row x ≡ 0 = λ x e. omega (arith, ap one e) in
    let not_in : (x : ℕ) → times_in row x ≡ 0 → has opened x ≡ false = λ x z. by_test (has opened x) (λ e. absurd (omega (arith, ap one e))) (λ e. e) in (
      λ r.
          let e = both.0 ((within_apart opened).0 r) in
          let l : SameLocked opened s t = λ x h n. e.elsewhere x h (lone x n) in
          record { locked = l; rule = (part_rule opened s t p l).0 (e.each 0 (omega arith)) },
      λ r.
          let each : (i : ℕ) → i < 1 → Reachable (part (get_or row i 0) s) (part (get_or row i 0) t) = one_place ((part_rule opened s t p r.locked).1 r.rule) in
          (within_apart opened).1 (both.1 (record { elsewhere = λ x h z. r.locked x h (not_in x z); each = each })),
    )
  where
    one_place : Reachable (part opened s) (part opened t) → (i : ℕ) → i < 1 → Reachable (part (get_or (opened ∷ []) i 0) s) (part (get_or (opened ∷ []) i 0) t)
    one_place r zero h = r
    one_place r (suc i) h = absurd (omega arith)
