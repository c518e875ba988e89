-- `read_shaft` meets its contract: the depth, set, and then 3, or the height and the rows.
use native.Mathlib.Omega.{arith}
use Rattle.image.proofs.Forms.{width_some, width_most}
use Rattle.columns.proofs.Parts.{shaft_high, shaft_goes}
use Rattle.columns.proofs.Work.read_shaft.Goals as goal

pub returns-then-d-rows : goal.returns-then-d-rows
returns-then-d-rows c =
    let a = c.args in
    shaft_high a.head a.x a.self.now.store a.self.now.words (rw c.own_depths.ensures at c.in_ok-depth.ensures) c.in_ok-rows.ensures c.if-d-rows.true

pub read_rows-requires-clause-w_nonzero : goal.read_rows-requires-clause-w_nonzero
read_rows-requires-clause-w_nonzero c = (omega (arith, c.cassette_width.ensures, width_some c.args.head.form), omega (arith, c.cassette_width.ensures, width_most c.args.head.form))

pub returns : goal.returns
returns c =
    let a = c.args in
    shaft_goes a.head a.x a.self.now.store a.self.now.words (rw c.own_depths.ensures at c.in_ok-depth.ensures) c.in_ok-rows.ensures c.if-d-rows.false
    (omega (arith, c.in_ok-depth.ensures.small)) (width_most a.head.form) (rw c.cassette_width.ensures at c.read_rows.ensures)
