-- `read_shafts` meets its contract: before turn x the shafts below x are read.
use Prim.Native.Nat.{◌*◌}
use Rattle.std.specs.Prelude.{Ok}
use Rattle.image.specs.Reading.{read_shafts}
use Rattle.columns.specs.Columns.{Reads, shaft_most}
use Rattle.columns.proofs.Work.read_shafts.Given as goal

abbrev pub invariant-loop-x : goal.invariant-loop-x
invariant-loop-x l = Reads l.image (read_shafts l.head.form l.head.depth l.x) (shaft_most * l.x) l.initial.self l.self (Ok tt)
