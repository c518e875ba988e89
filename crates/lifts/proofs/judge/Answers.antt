-- `judge` meets its contract: each test is one case of `refusal_by`.
use mathlib.Core.Path.{sym}
use native.Mathlib.Omega.{arith}
use Rattle.lifts.proofs.Numbered.{only_judged}
use Rattle.lifts.proofs.Judging.{left_past, entered_past, one_shaft_lem, left_empty, entered_full, none_refused}
use Rattle.lifts.proofs.judge.Goals as goal
use Rattle.lifts.proofs.judge.Goals.{then-m-from-via-then-m-from, then-m-from-via-else-m-from+then-m-to, then-m-from-via-else-m-from+else-m-to+then-from-to}

pub returns-then-m-from : goal.returns-then-m-from
returns-then-m-from c =
    only_judged (sym (elim c.then-m-from.branch [
      | then-m-from-via-then-m-from w ↦ left_past _ _ _ _ _ _ (omega arith)
      | then-m-from-via-else-m-from+then-m-to w ↦ entered_past _ _ _ _ _ _ (omega arith) (omega arith)
      | then-m-from-via-else-m-from+else-m-to+then-from-to w ↦ one_shaft_lem _ _ _ _ _ _ (omega arith) (omega arith) (omega arith)
    ]))

pub returns-then-left-eq0 : goal.returns-then-left-eq0
returns-then-left-eq0 c = only_judged (sym (left_empty _ _ _ _ _ _ (omega arith) (omega arith) (omega arith) (omega arith)))

pub returns-then-d-entered : goal.returns-then-d-entered
returns-then-d-entered c = only_judged (sym (entered_full _ _ _ _ _ _ (omega arith) (omega arith) (omega arith) (omega arith) (omega arith)))

pub returns : goal.returns
returns c = only_judged (sym (none_refused _ _ _ _ _ _ (omega arith) (omega arith) (omega arith) (omega arith) (omega arith)))
