-- `part_reachable` meets its contract: no shaft, other cassettes, or the rule for the shafts of the set.
use mathlib.Core.Path.{sym, ap, ◌∙◌, subst₂}
use Rattle.stacks.specs.Deciding.{Decides}
use Rattle.stacks.proofs.Deciding.{holds, fails}
use Rattle.store.specs.declared.Store.{Store}
use Rattle.store.specs.Lists.{Reachable}
use Rattle.store.proofs.Acceptance.{accepted_shaped}
use Rattle.reach.proofs.RuleTests.{by_rule}
use Rattle.apart.proofs.ApartLaws.{part_none, part_refused}
use Rattle.apart.proofs.part_reachable.Goals as goal

pub part_of-a-requires : goal.part_of-a-requires
part_of-a-requires c = (accepted_shaped _ c.requires.start).shafts

pub returns-then-a-eq0 : goal.returns-then-a-eq0
returns-then-a-eq0 c =
    holds (part_none _ _ _ c.requires (sym (ap (λ (u : Store). u.m) c.part_of-a.ensures) ∙ c.if-a-eq0.true))

pub part_of-b-requires : goal.part_of-b-requires
part_of-b-requires c = (accepted_shaped _ c.requires.goal).shafts

pub returns-in-Err : goal.returns-in-Err
returns-in-Err c =
    fails (part_refused c.args.some c.args.start c.args.goal c.requires _ c.part_of-a.ensures c.part_of-b.ensures c.if-a-eq0.false c.in-Err.ensures)

pub rule_holds-requires : goal.rule_holds-requires
rule_holds-requires c = record { comparable = c.in-Ok.ensures.0; n_value = c.in-Ok.ensures.1 }

pub returns-in-Ok : goal.returns-in-Ok
returns-in-Ok c =
    let p = c.in-Ok.ensures.0 in
    let d = by_rule _ _ p c.rule_holds.ensures in
    subst₂ (λ (u v : Store). Decides c.rule_holds.result (Reachable u v)) c.part_of-a.ensures c.part_of-b.ensures d
