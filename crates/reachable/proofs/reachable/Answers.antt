-- `reachable` meets its contract: the fault of the pair, or yes or no by the rule, which is reachability.
use Rattle.std.proofs.lemmas.Result.{err_from_is_err_and}
use Rattle.reachable.proofs.Answers.{said_by_rule}
use Rattle.reachable.proofs.reachable.Goals as goal

pub returns-in_err-n : goal.returns-in_err-n
returns-in_err-n c = let p = err_from_is_err_and c.from_residual.result c.from_residual.ensures.1 in rw (p.1, p.2) c.in_err-n.ensures

pub rule_holds-requires : goal.rule_holds-requires
rule_holds-requires c = record { comparable = c.in_ok-n.ensures.0; n_value = c.in_ok-n.ensures.1 }

pub returns : goal.returns
returns c = said_by_rule _ _ _ c.in_ok-n.ensures.0 c.rule_holds.ensures
