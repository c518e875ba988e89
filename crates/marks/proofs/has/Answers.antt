-- `has` meets its contract: the shift and the masks are the quotient and the remainders of the definition.
use mathlib.Core.Path.{◌≡◌, ap}
use Prim.Native.Nat.{ℕ, ◌/◌, ◌%◌, ◌^◌}
use lib.ListN.{get_or}
use lib.Dec.{eqb}
use lib.Bits.{bit_and, and_mask}
use Rattle.marks.specs.Marking.{marked}
use Rattle.marks.proofs.has.Goals as goal

pub returns : goal.returns
unfolding marked
returns c =
    let e : bit_and c.args.c 63 ≡ c.args.c % 64 = and_mask c.args.c 6 in
    rw e (ap (λ (n : ℕ). eqb n 1) (and_mask (get_or c.args.words.now (c.args.c / 64) 0 / 2 ^ (c.args.c % 64)) 1))
