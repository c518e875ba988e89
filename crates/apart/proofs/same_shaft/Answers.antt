-- `same_shaft` meets its contract: the heights, then the rows.
use native.Mathlib.Omega.{arith}
use Rattle.stacks.proofs.Deciding.{fails}
use Rattle.apart.proofs.ApartLaws.{heights_differ, rows_decide}
use Rattle.apart.proofs.same_shaft.Goals as goal

pub returns-then-height-t : goal.returns-then-height-t
returns-then-height-t c =
    fails (heights_differ _ _ _ c.if-height-t.true)

pub same_rows-requires : goal.same_rows-requires
same_rows-requires c =
    let q = c.requires in
    (q.x_lt_most_shafts, omega (arith, q.shaped.heights c.args.x, q.shaped.rows c.args.x))

pub returns : goal.returns
returns c =
    rows_decide _ _ _ c.if-height-t.false c.same_rows.ensures
