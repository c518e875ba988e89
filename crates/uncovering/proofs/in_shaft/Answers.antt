-- `in_shaft` meets its contract: the highest row that shows the number decides.
use native.Mathlib.Omega.{arith}
use Rattle.store.proofs.Acceptance.{accepted_shaped}
use Rattle.uncovering.proofs.Nearest.{too_low, nearest_top}
use Rattle.uncovering.proofs.in_shaft.Goals as goal

pub height_at-rows-requires : goal.height_at-rows-requires
height_at-rows-requires c = omega (arith, c.requires.x_lt_m, (accepted_shaped _ c.requires.ready.accepted).shafts)

pub top_row-row-requires : goal.top_row-row-requires
top_row-row-requires c =
    let p = accepted_shaped _ c.requires.ready.accepted in
    let x = c.args.x in
    (omega (arith, c.requires.x_lt_m, p.shafts), omega (arith, c.height_at-rows.ensures, p.heights x, p.rows x))

pub returns-then-row-floor_rows : goal.returns-then-row-floor_rows
returns-then-row-floor_rows c =
    too_low _ _ _ _ _ c.requires.x_lt_m c.height_at-rows.ensures c.top_row-row.ensures c.if-row-eq0.false _ c.requires.ready _ c.floor_rows.ensures (omega (arith, c.if-row-floor_rows.true))

pub returns : goal.returns
returns c =
    nearest_top _ _ _ _ _ c.requires.x_lt_m c.height_at-rows.ensures c.top_row-row.ensures c.if-row-eq0.false _ c.requires.ready _ c.floor_rows.ensures (omega (arith, c.if-row-floor_rows.false))
