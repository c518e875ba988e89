-- `field_at` meets its contract: the field cut out of the three bytes from its first one on.
use mathlib.Core.Path.{◌≡◌, ap, ◌∙◌}
use native.Mathlib.Omega.{arith}
use lib.ListN.{drop}
use lib.Pow.{pow_mono}
use Rattle.std.specs.Prelude.{Some}
use Rattle.bits.specs.Fields.{field, bits_of}
use Rattle.bits.proofs.Cuts.{field_in_bytes}
use Rattle.bits.proofs.Places.{field_missing, field_there}
use Rattle.bits.proofs.Widths.{field_lt}
use Rattle.bits.proofs.field_at.Goals as goal

value : (c : goal.After-cut) → c.cut.result ≡ field (drop c.args.at (bits_of c.args.s.now)) c.args.w
value c = let a = c.args in c.cut.ensures ∙ field_in_bytes a.s.now a.at a.w _ (λ j. (c.type_inv.s j).fits) c.requires.1 c.three_bytes.ensures

pub returns-then-s-byte : goal.returns-then-s-byte
returns-then-s-byte c = let a = c.args in field_missing a.s.now a.at a.w (omega arith) (omega arith)

pub overflow_cast-result : goal.overflow_cast-result
overflow_cast-result c = let a = c.args in omega (arith, value c, field_lt (drop a.at (bits_of a.s.now)) a.w, pow_mono c.requires.1)

pub returns : goal.returns
returns c = let a = c.args in ap Some (value c) ∙ field_there a.s.now a.at a.w (omega arith)
