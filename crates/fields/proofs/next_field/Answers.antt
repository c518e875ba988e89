-- `next_field` meets its contract: a missing field is 2, and a field that is there is its value.
use mathlib.Core.Path.{◌≡◌, sym, ◌∙◌}
use native.Mathlib.Omega.{arith}
use Rattle.std.specs.Prelude.{Some}
use Rattle.fields.proofs.Steps.{field_found}
use Rattle.fields.proofs.next_field.Goals as goal

pub returns : goal.returns
returns c =
    let a = c.args in
    let e : c.read_field.result ≡ Some c.in_ok-value.value = grind arith in
    field_found a.image.now a.w a.at.now _ (sym c.read_field.ensures ∙ e)
