-- `has` meets its contract: the shift and the mask are the quotient and the remainder of the definition.
use mathlib.Core.Path.{ap}
use Prim.Native.Nat.{ℕ, ◌/◌, ◌^◌}
use lib.Bits.{and_mask}
use lib.Dec.{eqb}
use Rattle.sets.specs.Sets.{has}
use Rattle.sets.proofs.has.Goals as goal

pub returns : goal.returns
unfolding has
returns c = ap (λ (n : ℕ). eqb n 1) (and_mask (c.args.shafts / 2 ^ c.args.x) 1)
