-- `coded` meets its contract: from the blank to the value that stands for it it is 2^w less 2^12, from any other number nothing.
use mathlib.Core.Bool.{Bool, cond}
use mathlib.Core.Path.{sym, ap, ◌∙◌}
use native.Mathlib.Omega.{arith}
use Rattle.marks.proofs.Others.{only_blank}
use Rattle.image.specs.Coding.{blank_value, coded}
use Rattle.forms.proofs.Shifts.{high, power, Steps, to_value}
use Rattle.forms.proofs.coded.Goals as goal

-- the steps to the value, by whether the number is the blank
steps : (c : goal.After-is_blank-one) → let a = c.args in let b = c.is_blank-one.result in
    Steps a.w c.requires a.c (cond b (blank_value a.w) a.c) (power a.w c.requires b) (high a.w c.requires b)
steps c =
    let a = c.args in
    to_value a.w c.requires a.c _ c.ranges.c.fits (λ e. only_blank a.c (sym c.is_blank-one.ensures ∙ e))

pub returns : goal.returns
unfolding coded
returns c = (steps c).is ∙ ap (λ (b : Bool). cond b (blank_value c.args.w) c.args.c) c.is_blank-one.ensures

pub overflow_add-result : goal.overflow_add-result
overflow_add-result c = omega (arith, (steps c).fits)

pub overflow_sub-result : goal.overflow_sub-result
overflow_sub-result c = (steps c).above
