-- `field_there` meets its contract: the field is not missing.
use borrow.Author.Rules.{rules}
use mathlib.Core.Path.{◌≡◌, sym, ◌∙◌}
use native.Mathlib.Omega.{arith}
use lib.ListN.{drop}
use Rattle.std.specs.Prelude.{Some}
use Rattle.bits.specs.Fields.{field, bits_of}
use Rattle.bits.proofs.Places.{field_there}
use Rattle.entries.proofs.field_there.Goals as goal

pub unwrap-requires : goal.unwrap-requires
unwrap-requires c = rw c.read_field.ensures (rw (← field_there _ _ _ c.requires.2) (search rules))

pub returns : goal.returns
returns c =
    let r : c.read_field.result ≡ Some (field (drop c.args.at (bits_of c.args.log.now)) c.args.w) = c.read_field.ensures ∙ sym (field_there _ _ _ c.requires.2) in
    grind arith
