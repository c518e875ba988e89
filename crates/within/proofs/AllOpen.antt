-- What the sets of all shafts, of one and of none come to: with all open every legal list is within them, with one or none only the empty list.
use mathlib.Core.List.{List}
use mathlib.Core.Logic.{◌↔◌}
use mathlib.Core.Path.{◌≡◌, refl, sym, ap, ◌∙◌}
use Prim.Native.Nat.{ℕ, ◌≤◌}
use native.Mathlib.Omega.{arith}
use lib.ListN.{length}
use borrow.Author.Tests.{ltb-true, lt-ltb}
use Rattle.lifts.specs.Bytes.{left, entered}
use Rattle.store.specs.declared.Store.{Store}
use Rattle.store.specs.Lifts.{lifted}
use Rattle.store.specs.Lists.{Leads, ended, then, Reachable}
use Rattle.sets.specs.Sets.{shafts_in, shaft_at, AllOf, Fits}
use Rattle.sets.proofs.SetLaws.{shaft_placed}
use Rattle.within.specs.Within.{Each, none, more, Inside, ReachableWithin}

-- with all shafts open every legal list is within them
all_inside : (m opened : ℕ) → AllOf m opened → {s t : Store} {bs : List ℕ} → s.m ≡ m → Leads s bs t → Each (Inside opened) bs
unfolding lifted
all_inside m opened a e ended = none
all_inside m opened a e (then {s} {t} {b} {bs} k l) =
    more (a (left b) ∙ lt-ltb (left b) m (omega (arith, k.left_below)), a (entered b) ∙ lt-ltb (entered b) m (omega (arith, k.entered_below))) (all_inside m opened a e l)

pub all_open : (opened : ℕ) {s t : Store} → AllOf s.m opened → ReachableWithin opened s t ↔ Reachable s t
all_open opened {s} a = (λ r. record { lifts = r.lifts; leads = r.leads }, λ r. record { lifts = r.lifts; leads = r.leads; inside = all_inside s.m opened a refl r.leads })

-- the set of all shafts fits
pub all_fits : (m opened : ℕ) → AllOf m opened → Fits m opened
all_fits m opened a x e = ltb-true x m (sym (a x) ∙ e)

-- "Open 0, or one shaft: only the start itself."
pub few_open : (opened : ℕ) {s t : Store} {bs : List ℕ} → length (shafts_in opened s.m) ≤ 1 → Leads s bs t → Each (Inside opened) bs → s ≡ t
few_open opened few ended e = refl
few_open opened few (then {s} {t} {b} {bs} k l) (more i e) =
    let u = shaft_placed opened (left b) s.m k.left_below i.0 in
    let v = shaft_placed opened (entered b) s.m k.entered_below i.1 in
    let n : length (shafts_in opened (left b)) ≡ length (shafts_in opened (entered b)) = omega (arith, few, u.0, v.0) in
    absurd (k.differ (sym u.1 ∙ ap (shaft_at (shafts_in opened s.m)) n ∙ v.1))
