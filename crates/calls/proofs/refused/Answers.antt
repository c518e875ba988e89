-- `refused` meets its contract: the lent bytes are as they came.
use borrow.Author.Rules.{rules}
use Rattle.calls.proofs.refused.Goals as goal

pub returns : goal.returns
returns c = record { number = search rules; bytes = search rules }
