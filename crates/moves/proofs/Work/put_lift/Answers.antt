-- `put_lift` meets its contract: the lift carried, and its byte set at the end of the list.
use Rattle.moves.proofs.Carrying.{put}
use Rattle.moves.proofs.Work.put_lift.Goals as goal

pub returns : goal.returns
returns c =
    put _ _ _ _ _ _ _ c.requires.can_carry c.carry-carried.ensures c.pack.ensures
