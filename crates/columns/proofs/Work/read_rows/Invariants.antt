-- `read_rows` meets its contract: before turn k the first k rows are read.
use Prim.Native.Nat.{◌*◌}
use Rattle.std.specs.Prelude.{Ok}
use Rattle.image.specs.Reading.{read_rows}
use Rattle.columns.specs.Columns.{Reads}
use Rattle.columns.proofs.Work.read_rows.Given as goal

abbrev pub invariant-loop-k : goal.invariant-loop-k
invariant-loop-k l = Reads l.image (read_rows l.w l.x l.k) (l.w * l.k) l.initial.self l.self (Ok tt)
