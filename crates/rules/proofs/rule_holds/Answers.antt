-- `rule_holds` meets its contract: the readings for one or two shafts, the floors for three or more.
use Rattle.stacks.proofs.Deciding.{decides_as}
use Rattle.store.proofs.Acceptance.{accepted_shaped}
use Rattle.rules.proofs.RuleLaws.{both_hold, few_rule, more_rule}
use Rattle.rules.proofs.rule_holds.Goals as goal

pub same_reading-requires : goal.same_reading-requires
same_reading-requires c =
    let p = c.requires in
    record {
      shaped = accepted_shaped _ p.comparable.start;
      shaped_2 = accepted_shaped _ p.comparable.goal;
      n_value = both_hold _ _ p.comparable _ p.n_value c.if-start-le2.true;
    }

pub returns-then-start-le2 : goal.returns-then-start-le2
returns-then-start-le2 c =
    let e = few_rule _ _ c.requires.comparable c.if-start-le2.true in
    decides_as e.0 e.1 c.same_reading.ensures

pub same_floors-requires : goal.same_floors-requires
same_floors-requires c =
    let p = accepted_shaped _ c.requires.comparable.start in
    (p.shafts, p.rows)

pub returns : goal.returns
returns c =
    let p = c.requires in
    let e = more_rule _ _ p.comparable _ c.empty_slots-e.ensures c.if-start-le2.false in
    decides_as e.0 e.1 c.same_floors.ensures
