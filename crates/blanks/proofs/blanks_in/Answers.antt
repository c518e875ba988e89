-- `blanks_in` meets its contract. The invariant: n is the count of blanks in the rows passed.
use mathlib.Core.Path.{◌≡◌, refl}
use native.Mathlib.Numerals.{add-one}
use native.Mathlib.Omega.{arith}
use Rattle.stacks.specs.Count.{count}
use Rattle.rows.specs.Rows.{rows_up}
use Rattle.blanks.proofs.Counting.{byte_most, row_more}
use Rattle.blanks.proofs.blanks_in.Goals as goal

pub loop-k-init : goal.loop-k-init
unfolding count rows_up
loop-k-init c = (refl, omega arith)

pub overflow_add-n : goal.overflow_add-n
overflow_add-n c = omega (arith, byte_most c.is_blank.result, c.loop-k.invariant)

pub loop-k-preserved : goal.loop-k-preserved
loop-k-preserved c = (
  rw add-one (omega (arith, c.loop-k.invariant.0, row_more c.args.slots.now c.args.x c.loop-k.k c.slot_at.ensures c.is_blank.ensures)),
  omega (arith, c.loop-k.invariant.1, byte_most c.is_blank.result),
)

pub returns : goal.returns
returns c =
    let all : c.loop-k.k ≡ c.args.rows = omega arith in
    record { blanks = rw all at c.loop-k.invariant.0; most = omega (arith, c.loop-k.invariant.1) }
