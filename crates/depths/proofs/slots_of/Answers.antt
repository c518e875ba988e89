-- `slots_of` meets its contract: the depths stand in an array as the heights do.
use Rattle.depths.specs.Depths.{depth_by}
use Rattle.depths.proofs.slots_of.Goals as goal

pub returns : goal.returns
unfolding depth_by
returns c = c.sum_of.ensures
