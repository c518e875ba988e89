-- The yes or no that the rule gives is right.
use mathlib.Core.Bool.{Bool, true, false}
use mathlib.Core.Path.{refl}
use Rattle.std.specs.Prelude.{Ok}
use Rattle.stacks.specs.Deciding.{Decides}
use Rattle.store.specs.declared.Store.{Store}
use Rattle.reach.specs.Pairs.{Comparable}
use Rattle.reach.specs.Rules.{Rule}
use Rattle.reach.proofs.RuleTests.{by_rule}
use Rattle.reachable.specs.Promises.{ReachSays}

module _ (s t : Store) where
  pub said_by_rule : (b : Bool) → Comparable s t → Decides b (Rule s t) → ReachSays s t (Ok b)
  said_by_rule true p d = (p, (by_rule s t p d).so refl)
  said_by_rule false p d = (p, (by_rule s t p d).not_so refl)
