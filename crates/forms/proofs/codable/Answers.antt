-- `codable` meets its contract by its two tests.
use mathlib.Core.Path.{sym, ◌∙◌}
use Rattle.image.specs.Coding.{codable}
use Rattle.forms.proofs.codable.Goals as goal

pub returns-then-is_blank : goal.returns-then-is_blank
unfolding codable
returns-then-is_blank c = simp (sym c.is_blank.ensures ∙ c.if-is_blank.true, c.if-is_blank.true)

pub returns-else-is_blank : goal.returns-else-is_blank
unfolding codable
returns-else-is_blank c = simp (sym c.is_blank.ensures ∙ c.if-is_blank.false, c.blank_value.ensures)
