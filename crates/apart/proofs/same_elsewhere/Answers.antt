-- `same_elsewhere` meets its contract. The invariant: the shafts passed are in some set, or the same.
use borrow.Author.Count.{below_none, below_more}
use native.Mathlib.Omega.{arith}
use Rattle.stacks.proofs.Deciding.{holds, fails}
use Rattle.apart.proofs.same_elsewhere.Goals as goal

pub loop-x-init : goal.loop-x-init
loop-x-init c = below_none _

pub in_or_same-requires : goal.in_or_same-requires
in_or_same-requires c =
    let q = c.requires in
    record { shaped = q; x_lt_most_shafts = omega (arith, q.shafts) }

pub returns-then-not-in_or_same : goal.returns-then-not-in_or_same
returns-then-not-in_or_same c =
    let l = c.loop-x in
    fails λ e. c.in_or_same.ensures.not_so (c.if-not-in_or_same.true) (e l.x (omega arith))

pub loop-x-preserved : goal.loop-x-preserved
loop-x-preserved c =
    let l = c.loop-x in
    below_more _ _ l.invariant (c.in_or_same.ensures.so (c.if-not-in_or_same.false))

pub returns : goal.returns
returns c =
    let l = c.loop-x in
    holds λ x h. l.invariant x (omega arith)
