-- `is_blank` meets its contract by the definition.
use mathlib.Core.Path.{ap}
use lib.Dec.{eqb}
use Rattle.marks.specs.Cassettes.{is_blank}
use Rattle.marks.proofs.is_blank.Goals as goal

pub returns : goal.returns
unfolding is_blank
returns c = ap (eqb c.args.c) c.blank.ensures
