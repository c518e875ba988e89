-- `write_rows` meets its contract: after k turns the first k rows are written.
use Rattle.pens.specs.Pens.{Pushes}
use Rattle.rows.specs.Rows.{rows_up}
use Rattle.image.specs.Coding.{cassette_bits}
use Rattle.image_parts.proofs.write_rows.Given as goal

abbrev pub invariant-loop-k : goal.invariant-loop-k
invariant-loop-k l = Pushes (cassette_bits l.w (rows_up l.slots l.x l.k)) l.initial.out l.out l.initial.q l.q
