-- `play` meets its contract.
use Rattle.rounds.proofs.Playing.{played_lent}
use Rattle.rounds.proofs.play.Goals as goal

pub returns-in-Some : goal.returns-in-Some
returns-in-Some c = played_lent c.requires.on_the_way c.requires.f_in_bounds c.serve-t.ensures _ c.in-Some.is c.restore.ensures
