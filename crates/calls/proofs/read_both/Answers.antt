-- `read_both` meets its contract: the start's fault, or the goal's, or both stores.
use mathlib.Core.Path.{ap}
use Rattle.image.specs.Numbers.{read_number}
use Rattle.calls.proofs.Readings.{start_refused, goal_told_lem}
use Rattle.calls.proofs.read_both.Goals as goal

pub returns-in-Err : goal.returns-in-Err
returns-in-Err c = start_refused c.read_one-one.ensures c.in-Err.is

pub returns : goal.returns
returns c = goal_told_lem c.read_one-one.ensures (ap read_number c.in_default.is) c.read_one-two.ensures
