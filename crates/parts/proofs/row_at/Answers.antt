-- `row_at` meets its contract: past the sixteenth shaft the slots have the default, 0.
use borrow.Author.Rules.{rules}
use Rattle.lifts.specs.Lifting.{shown}
use Rattle.parts.proofs.row_at.Goals as goal

pub returns : goal.returns
unfolding shown
returns c = search rules
