-- With all shafts open the rule within the set is "reachable".
use mathlib.Core.Logic.{◌↔◌}
use Prim.Native.Nat.{ℕ}
use Rattle.store.specs.declared.Store.{Store}
use Rattle.reach.specs.Pairs.{Comparable}
use Rattle.reach.specs.Rules.{Rule}
use Rattle.reach.proofs.Reachability.{reachable_exactly}
use Rattle.sets.specs.Sets.{AllOf}
use Rattle.within.specs.Rules.{RuleWithin}
use Rattle.within.proofs.RuleExactly.{within_exactly}
use Rattle.within.proofs.AllOpen.{all_open, all_fits}

-- "'all shafts open' is today's": the rule within the set of all shafts is document 01's
pub rule_all_open : (opened : ℕ) (s t : Store) → Comparable s t → AllOf s.m opened → RuleWithin opened s t ↔ Rule s t
rule_all_open opened s t p a =
    let w = within_exactly opened s t p (all_fits s.m opened a) in
    let o = all_open opened {s = s} {t = t} a in
    let r = reachable_exactly s t p in
    (λ k. r.0 (o.0 (w.1 k)), λ k. w.0 (o.1 (r.1 k)))
