-- `check_shafts` meets its contract. The invariant: the shafts passed were taken without a fault.
use mathlib.Core.Path.{◌≡◌, subst}
use Prim.Native.Nat.{ℕ, ◌≤◌}
use native.Mathlib.Numerals.{add-one}
use native.Mathlib.Omega.{arith}
use Rattle.std.proofs.lemmas.Result.{err_from_is_err_and}
use Rattle.store.specs.Slots.{depth, height}
use Rattle.store.proofs.Walked.{ShaftsSoFar, no_shafts, shaft_high, shaft_refused, shaft_taken, shafts_taken}
use Rattle.store.proofs.accept.check_shafts.Goals as goal

pub loop-x-init : goal.loop-x-init
loop-x-init c = no_shafts _ c.none-marks.ensures

pub returns-then-depth_of-rows : goal.returns-then-depth_of-rows
returns-then-depth_of-rows c =
    shaft_high c.loop-x.invariant c.loop-x-test.true (omega (arith, c.if-depth_of-rows.true, c.depth_of.ensures, c.height_at-rows.ensures))

pub returns-in_err-take_rows : goal.returns-in_err-take_rows
returns-in_err-take_rows c =
    let p = err_from_is_err_and c.from_residual.result c.from_residual.ensures.1 in
    let h : height c.args.s.now c.loop-x.x ≤ depth c.args.s.now c.loop-x.x = omega (arith, c.if-depth_of-rows.false, c.depth_of.ensures, c.height_at-rows.ensures) in
    rw (p.1, p.2) (shaft_refused c.loop-x.invariant _ c.loop-x-test.true h {words' = c.take_rows.new.marks} (rw (← c.height_at-rows.ensures) c.in_err-take_rows.ensures))

pub loop-x-preserved : goal.loop-x-preserved
loop-x-preserved c =
    let h : height c.args.s.now c.loop-x.x ≤ depth c.args.s.now c.loop-x.x = omega (arith, c.if-depth_of-rows.false, c.depth_of.ensures, c.height_at-rows.ensures) in
    rw add-one (shaft_taken c.loop-x.invariant h (rw (← c.height_at-rows.ensures) c.in_ok-take_rows.ensures))

pub returns : goal.returns
returns c =
    let k : c.loop-x.x ≡ c.args.s.now.m = omega (arith, c.loop-x-test.false, c.loop-x.auto.x-end) in
    shafts_taken (subst (λ (n : ℕ). ShaftsSoFar c.args.s.now n c.loop-x.marks) k c.loop-x.invariant)
