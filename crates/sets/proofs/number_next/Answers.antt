-- `number_next` meets its contract.
use borrow.Author.Rules.{rules}
use mathlib.Core.Bool.{true, false}
use mathlib.Core.Path.{◌≡◌, sym, ◌∙◌}
use native.Mathlib.Omega.{arith}
use Rattle.sets.specs.Sets.{has}
use Rattle.sets.proofs.number_next.Goals as goal

pub returns-then-has : goal.returns-then-has
returns-then-has c =
    let a = c.args in
    let e : has a.some a.x ≡ true = sym c.has.ensures ∙ c.if-has.true in
    rw e (omega arith, search rules)

pub returns : goal.returns
returns c =
    let a = c.args in
    let e : has a.some a.x ≡ false = sym c.has.ensures ∙ c.if-has.false in
    rw e (omega arith, search rules)
