-- `read` meets its contract: the store that was read, or the smallest one with the fault.
use Rattle.reading.proofs.Endings.{read_accepted, read_refused}
use Rattle.reading.proofs.read.Goals as goal

pub returns-in-Ok : goal.returns-in-Ok
returns-in-Ok c = read_accepted _ _ c.in-Ok.ensures

pub returns-in-Err : goal.returns-in-Err
returns-in-Err c = rw c.smallest.ensures (read_refused _ _ c.in-Err.ensures)
