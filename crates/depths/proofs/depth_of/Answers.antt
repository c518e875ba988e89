-- `depth_of` meets its contract: past the sixteenth shaft a list of sixteen depths has the default, 0.
use borrow.Author.Rules.{rules}
use Rattle.depths.specs.Depths.{depth_by}
use Rattle.depths.proofs.depth_of.Goals as goal

pub returns : goal.returns
unfolding depth_by
returns c = search rules
