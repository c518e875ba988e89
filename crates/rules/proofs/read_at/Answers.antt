-- `read_at` meets its contract: below the height of shaft 0 the place is a row of shaft 0, from there on one of shaft 1, counted from the top.
use native.Mathlib.Omega.{arith}
use Rattle.rules.proofs.Places.{read_low, read_high}
use Rattle.rules.proofs.read_at.Goals as goal

pub bounds-s-p : goal.bounds-s-p
bounds-s-p c = omega (arith, c.requires.shaped.heights 0, c.requires.shaped.rows 0, c.if-p-low.true)

pub returns-then-p-low : goal.returns-then-p-low
returns-then-p-low c =
    let a = c.args in
    read_low a.s a.p c.if-p-low.true

pub overflow_add-place : goal.overflow_add-place
overflow_add-place c = omega (arith, c.requires.shaped.heights 1, c.requires.shaped.rows 1, c.if-p-low.false, c.requires.n_value)

pub bounds-s-place : goal.bounds-s-place
bounds-s-place c = omega (arith, c.requires.shaped.heights 1, c.requires.shaped.rows 1, c.if-p-low.false, c.requires.n_value)

pub returns : goal.returns
returns c =
    let a = c.args in
    read_high a.s a.n a.p c.requires.n_value.0 c.requires.n_value.1 c.if-p-low.false
