-- `same_reading` meets its contract. The invariant: the places passed read the same.
use borrow.Author.Count.{below_none, below_more}
use mathlib.Core.List.{List}
use mathlib.Core.Path.{sym, ap, ◌∙◌}
use Prim.Native.Nat.{ℕ}
use native.Mathlib.Omega.{arith}
use lib.ListN.{get_or}
use Rattle.stacks.proofs.Deciding.{holds, fails}
use Rattle.rules.proofs.Places.{same_readings}
use Rattle.rules.proofs.same_reading.Goals as goal

pub loop-p-init : goal.loop-p-init
loop-p-init c = below_none _

pub returns-then-read_at : goal.returns-then-read_at
returns-then-read_at c =
    let p = c.loop-p.p in
    fails λ e. c.if-read_at.true (c.read_at.ensures ∙ ap (λ (l : List ℕ). get_or l p 0) e ∙ sym c.read_at-in-loop-p.ensures)

pub loop-p-preserved : goal.loop-p-preserved
loop-p-preserved c =
    let e = sym c.read_at.ensures ∙ c.if-read_at.false ∙ c.read_at-in-loop-p.ensures in
    below_more _ _ c.loop-p.invariant e

pub returns : goal.returns
returns c =
    let a = c.args in
    holds (same_readings a.s a.t a.n (omega arith) (omega arith) λ p h. c.loop-p.invariant p (omega arith))
