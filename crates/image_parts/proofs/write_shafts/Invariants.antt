-- `write_shafts` meets its contract: after x turns the shafts below x are written.
use Rattle.pens.specs.Pens.{Pushes}
use Rattle.image.specs.Image.{shafts_bits}
use Rattle.image_parts.proofs.write_shafts.Given as goal

abbrev pub invariant-loop-x : goal.invariant-loop-x
invariant-loop-x l = Pushes (shafts_bits l.form l.s l.x) l.initial.out l.out l.initial.q l.q
