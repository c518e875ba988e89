-- `padded` meets its contract: no bit left, a whole byte or more left, or the bits left as one field.
use mathlib.Core.Path.{◌∙◌}
use native.Mathlib.Omega.{arith}
use Rattle.fields.proofs.Endings.{nothing_left, bytes_left, bits_left}
use Rattle.fields.proofs.padded.Goals as goal

pub returns-then-image-at : goal.returns-then-image-at
returns-then-image-at c = let a = c.args in nothing_left a.image.now a.at (omega arith)

pub returns-then-at-eq0 : goal.returns-then-at-eq0
returns-then-at-eq0 c = let a = c.args in bytes_left a.image.now a.at (omega arith)

pub returns-then-at-image : goal.returns-then-at-image
returns-then-at-image c = let a = c.args in bytes_left a.image.now a.at (omega arith)

pub returns : goal.returns
returns c = let a = c.args in c.eq.ensures ∙ rw c.read_field.ensures (bits_left a.image.now a.at _ (omega arith) (omega arith))
