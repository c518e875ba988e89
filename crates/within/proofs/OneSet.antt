-- A set of open shafts as a row of one set, and what can be reached within it in the store of its shafts.
use mathlib.Core.List.{[], ◌∷◌}
use mathlib.Core.Logic.{◌↔◌}
use mathlib.Core.Path.{◌≡◌, sym, ◌∙◌, subst}
use Prim.Native.Nat.{ℕ, zero, suc, ◌<◌}
use native.Mathlib.Omega.{arith}
use lib.ListN.{get_or}
use Rattle.store.specs.declared.Store.{Store}
use Rattle.store.specs.Lists.{Leads, Reachable}
use Rattle.store.specs.Sound.{Shaped}
use Rattle.store.proofs.Played.{leads_shaped}
use Rattle.parts.specs.Parts.{part}
use Rattle.parts.proofs.PartLaws.{part_is_lem, part_alone}
use Rattle.within.specs.Within.{Inside, ReachableWithin, ReachableApart}
use Rattle.within.proofs.Lists.{each_so, inner}

-- one set of open shafts, as a row
pub within_apart : (opened : ℕ) {s t : Store} → ReachableWithin opened s t ↔ ReachableApart (opened ∷ []) s t
within_apart opened = (
  λ r. record { lifts = r.lifts; leads = r.leads; apart = each_so (λ b i. record { place = 0; there = omega arith; inside = i }) r.inside },
  λ r. record { lifts = r.lifts; leads = r.leads; inside = each_so (λ b o. alone b o.place o.there o.inside) r.apart },
)
  where
    alone : (b i : ℕ) → i < 1 → Inside (get_or (opened ∷ []) i 0) b → Inside opened b
    alone b zero h k = k
    alone b (suc i) h k = absurd (omega arith)

-- what can be reached within a set can be reached in the store of its shafts
pub part_reached : (opened : ℕ) {s t : Store} → Shaped s → ReachableWithin opened s t → Reachable (part opened s) (part opened t)
part_reached opened {s} {t} p r =
    let n = inner opened p (part opened s) (part_is_lem opened s p) r.leads (each_so (λ b i. i.0 ∙ sym i.1) r.inside) in
    let e : n.end ≡ part opened t = part_alone n.part (part_is_lem opened t (leads_shaped p r.leads)) in
    record { lifts = n.lifts; leads = subst (Leads (part opened s) n.lifts) e n.leads }
