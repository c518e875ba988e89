-- `finished` meets its contract: 7 unless what is left is padding.
use mathlib.Core.Path.{sym, ◌∙◌}
use Rattle.fields.proofs.Endings.{not_padded, all_read}
use Rattle.fields.proofs.finished.Goals as goal

pub returns-then-not-padded : goal.returns-then-not-padded
returns-then-not-padded c = not_padded c.args.image.now c.args.at (sym c.padded.ensures ∙ c.if-not-padded.true)

pub returns : goal.returns
returns c = all_read c.args.image.now c.args.at (sym c.padded.ensures ∙ c.if-not-padded.false)
