-- `read_lent` meets its contract: the image's fault, 10, or the store.
use mathlib.Core.Path.{ap}
use native.Mathlib.Omega.{arith}
use Rattle.image.specs.Numbers.{read_number}
use Rattle.calls.proofs.HandedBack.{lent_refused, lent_little, lent_enough}
use Rattle.calls.proofs.read_lent.Goals as goal

pub returns-in-Err : goal.returns-in-Err
returns-in-Err c = lent_refused c.read_one-one.ensures _ c.in-Err.is

pub returns-then-lent-image : goal.returns-then-lent-image
returns-then-lent-image c = lent_little c.read_one-one.ensures _ (ap read_number c.in_default.is) (omega (arith, c.if-lent-image.true))

pub returns : goal.returns
returns c = lent_enough c.read_one-one.ensures _ (ap read_number c.in_default.is) (omega (arith, c.if-lent-image.false))
