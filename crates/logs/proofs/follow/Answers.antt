-- `follow` meets its contract: the store's own fault, or the log followed.
use mathlib.Core.Path.{sym}
use Rattle.logs.proofs.Tracing.{followed_refused}
use Rattle.logs.proofs.follow.Goals as goal

pub returns-in-Err : goal.returns-in-Err
returns-in-Err c = followed_refused _ _ _ (sym c.in-Err.ensures.has)
