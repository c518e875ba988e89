-- `read_one` meets its contract: it is the reading, and the image is bytes, so its store is accepted where it is.
use native.Mathlib.Omega.{arith}
use Rattle.calls.proofs.Readings.{one_read}
use Rattle.calls.proofs.read_one.Goals as goal

pub returns : goal.returns
returns c = one_read _ c.read.ensures (λ i. omega (arith, c.type_inv.image i))
