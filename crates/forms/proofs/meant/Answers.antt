-- `meant` meets its contract: from the value that stands for the blank to the blank it is 2^12 less 2^w, from any other nothing.
use borrow.Author.Tests.{eqb-true}
use mathlib.Core.Bool.{cond}
use mathlib.Core.Path.{ap, ◌∙◌}
use Prim.Native.Nat.{ℕ}
use lib.Dec.{eqb}
use Rattle.marks.specs.Cassettes.{blank}
use Rattle.image.specs.Coding.{meant}
use Rattle.forms.proofs.Shifts.{high, power, Steps, to_number}
use Rattle.forms.proofs.meant.Goals as goal

-- the steps to the number, by whether the value is the blank's
steps : (c : goal.After-blank_value) → let a = c.args in let b = eqb a.v c.blank_value.result in
    Steps a.w c.requires a.v (cond b blank a.v) (high a.w c.requires b) (power a.w c.requires b)
steps c =
    let a = c.args in
    to_number a.w c.requires a.v _ c.ranges.v.fits (λ e. eqb-true a.v _ e ∙ c.blank_value.ensures)

pub returns : goal.returns
unfolding meant
returns c = (steps c).is ∙ ap (λ (k : ℕ). cond (eqb c.args.v k) blank c.args.v) c.blank_value.ensures
