-- `fits` meets its contract. The invariant: no shaft passed, from m on, is in the set.
use borrow.Author.Rules.{rules}
use mathlib.Core.Path.{sym, ◌∙◌}
use native.Mathlib.Decide.{ℕ_discrete, dec_lt}
use native.Mathlib.Omega.{arith}
use Rattle.stacks.proofs.Deciding.{true_false, holds, fails}
use Rattle.sets.proofs.SetLaws.{none_past}
use Rattle.sets.proofs.fits.Goals as goal

pub loop-x-init : goal.loop-x-init
loop-x-init c = λ y h i. absurd (omega arith)

pub returns-then-has : goal.returns-then-has
returns-then-has c =
    let l = c.loop-x in
    fails λ f. omega (arith, f l.x (sym c.has.ensures ∙ c.if-has.true))

pub loop-x-preserved : goal.loop-x-preserved
loop-x-preserved c =
    let l = c.loop-x in
    λ y h i. elim (ℕ_discrete y l.x) [ yes e ↦ rw e (sym c.has.ensures ∙ c.if-has.false) | no n ↦ l.invariant y h (omega arith) ]

pub returns : goal.returns
returns c =
    let a = c.args in
    let l = c.loop-x in
    holds λ x e. elim (dec_lt x a.m) [
      | yes h ↦ h
      | no h ↦ absurd (true_false (sym e ∙ elim (dec_lt x 16) [
        | yes i ↦ l.invariant x (omega arith) (omega (arith, c.loop-x-test.false))
        | no i ↦ none_past a.set x (search rules) (omega arith)
      ]))
    ]
