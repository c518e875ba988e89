-- `shows` meets its contract: an empty shaft has no row.
use mathlib.Core.Path.{sym, ap, ◌∙◌}
use Prim.Native.Nat.{ℕ, ◌<◌}
use native.Mathlib.Omega.{arith}
use lib.Dec.{eqb}
use Rattle.lifts.specs.Lifting.{shown}
use Rattle.lifts.proofs.Moving.{shown_place}
use Rattle.entries.proofs.shows.Goals as goal

pub returns-then-rows-eq0 : goal.returns-then-rows-eq0
unfolding shown
returns-then-rows-eq0 c =
    let a = c.args in
    sym (ap (λ (k : ℕ). eqb a.number (shown a.s.now.slots a.x.0 k)) (sym c.height_at-rows.ensures ∙ c.if-rows-eq0.true))

pub returns : goal.returns
returns c =
    let h : 0 < c.height_at-rows.result = omega (arith, c.if-rows-eq0.false) in
    ap (eqb _) (c.slot_at.ensures ∙ sym (shown_place _ _ _ h) ∙ ap (shown _ _) c.height_at-rows.ensures)
