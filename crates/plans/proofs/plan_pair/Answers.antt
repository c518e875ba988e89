-- `plan_pair` meets its contract: where it refuses, 15 by the rule and 10 by the list space, and nothing is written.
use mathlib.Core.Path.{refl}
use Rattle.reach.proofs.RuleTests.{by_rule}
use Rattle.plans.proofs.plan_pair.Goals as goal

pub returns-then-not-reachable : goal.returns-then-not-reachable
returns-then-not-reachable c =
    let p = c.requires.comparable in
    let reach = by_rule _ _ p c.rule_holds-reachable.ensures in
    record { answer = (p, reach.not_so c.if-not-reachable.true); left = refl }

pub returns-then-little : goal.returns-then-little
returns-then-little c =
    let p = c.requires.comparable in
    let reach = by_rule _ _ p c.rule_holds-reachable.ensures in
    record { answer = (p, (reach.so c.if-not-reachable.false, c.too_little-little.ensures.so c.if-little.true)); left = refl }
