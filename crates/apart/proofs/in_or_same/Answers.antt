-- `in_or_same` meets its contract.
use mathlib.Core.Path.{sym, ◌∙◌}
use Rattle.stacks.proofs.Deciding.{holds, decides_as}
use Rattle.apart.proofs.in_or_same.Goals as goal

pub returns-then-times_in-ne0 : goal.returns-then-times_in-ne0
returns-then-times_in-ne0 c = holds λ z. absurd (c.if-times_in-ne0.true (c.times_in.ensures ∙ z))

pub returns : goal.returns
returns c =
    let z = sym c.times_in.ensures ∙ c.if-times_in-ne0.false in
    decides_as (λ e _. e) (λ f. f z) c.same_shaft.ensures
