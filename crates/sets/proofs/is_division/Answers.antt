-- `is_division` meets its contract. The invariant: each shaft passed is of as many groups as it should be.
use borrow.Author.Count.{below_none, below_more}
use borrow.Author.Tests.{le-ltb}
use mathlib.Core.Path.{sym, ap, ◌∙◌}
use native.Mathlib.Decide.{dec_lt}
use native.Mathlib.Omega.{arith}
use lib.Dec.{ltb}
use Rattle.stacks.specs.Count.{one}
use Rattle.stacks.proofs.Deciding.{holds, fails}
use Rattle.sets.proofs.RowLaws.{bit_is, none_times}
use Rattle.sets.proofs.is_division.Goals as goal

pub loop-x-init : goal.loop-x-init
loop-x-init c = below_none _

pub returns-then-times-due : goal.returns-then-times-due
returns-then-times-due c =
    let l = c.loop-x in
    let a = c.args in
    fails λ d. c.if-times-due.true (c.times_in-times.ensures ∙ d l.x ∙ sym (bit_is (ltb l.x a.m)))

pub loop-x-preserved : goal.loop-x-preserved
loop-x-preserved c =
    let l = c.loop-x in
    let a = c.args in
    below_more _ _ l.invariant (sym c.times_in-times.ensures ∙ c.if-times-due.false ∙ bit_is (ltb l.x a.m))

pub returns : goal.returns
returns c =
    let a = c.args in
    let l = c.loop-x in
    holds λ x. elim (dec_lt x 16) [
      | yes h ↦ l.invariant x (omega arith)
      | no h ↦ none_times a.groups.now x (λ i h. omega (arith, c.shared_slice_known-1.given i)) (omega arith) ∙ sym (ap one (le-ltb x a.m (omega arith)))
    ]
