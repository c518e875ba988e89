-- `same_floors` meets its contract. The invariant: the floors of the shafts passed agree.
use borrow.Author.Count.{below_none, below_more}
use mathlib.Core.Bool.{Bool}
use mathlib.Core.List.{List}
use mathlib.Core.Path.{◌≡◌, subst}
use Prim.Native.Nat.{ℕ, ◌-◌}
use native.Mathlib.Omega.{arith}
use Rattle.stacks.specs.Deciding.{Decides}
use Rattle.stacks.proofs.Deciding.{holds, fails}
use Rattle.depths.specs.Depths.{depth_by}
use Rattle.rows.specs.Rows.{rows_up}
use Rattle.rules.proofs.same_floors.Goals as goal

-- the rows tested are the floor
tested : (a b d : List ℕ) (x e : ℕ) {k : ℕ} {r : Bool} → k ≡ depth_by d x - e → Decides r (rows_up a x k ≡ rows_up b x k) → Decides r (rows_up a x (depth_by d x - e) ≡ rows_up b x (depth_by d x - e))
tested a b d x e {k} {r} f g = subst (λ (j : ℕ). Decides r (rows_up a x j ≡ rows_up b x j)) f g

pub loop-x-init : goal.loop-x-init
loop-x-init c = below_none _

pub same_rows-requires : goal.same_rows-requires
same_rows-requires c =
    let p = c.requires in
    (omega (arith, p.0), omega (arith, c.floor_rows.ensures, p.1 c.loop-x.x))

pub returns-then-not-same_rows : goal.returns-then-not-same_rows
returns-then-not-same_rows c = fails λ e. (tested _ _ _ _ _ c.floor_rows.ensures c.same_rows.ensures).not_so (c.if-not-same_rows.true) (e c.loop-x.x (omega arith))

pub loop-x-preserved : goal.loop-x-preserved
loop-x-preserved c = below_more _ _ c.loop-x.invariant ((tested _ _ _ _ _ c.floor_rows.ensures c.same_rows.ensures).so (c.if-not-same_rows.false))

pub returns : goal.returns
returns c = holds λ y h. c.loop-x.invariant y (omega arith)
