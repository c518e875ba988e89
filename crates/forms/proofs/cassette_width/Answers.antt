-- `cassette_width` meets its contract: 12 bits past form 1, else 8.
use borrow.Author.Tests.{lt-ltb, le-ltb}
use mathlib.Core.Path.{sym}
use Rattle.image.specs.Image.{cassette_width}
use Rattle.forms.proofs.cassette_width.Goals as goal

pub returns-then-form-gt1 : goal.returns-then-form-gt1
unfolding cassette_width
returns-then-form-gt1 c = sym (simp (lt-ltb 1 c.args.form c.if-form-gt1.true))

pub returns-else-form-gt1 : goal.returns-else-form-gt1
unfolding cassette_width
returns-else-form-gt1 c = sym (simp (le-ltb 1 c.args.form c.if-form-gt1.false))
