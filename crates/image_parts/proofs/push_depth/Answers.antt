-- `push_depth` meets its contract: one field, or none.
use Prim.Native.Nat.{◌-◌}
use native.Mathlib.Omega.{arith}
use Rattle.bits.proofs.Widths.{length_bits}
use Rattle.depths.specs.Depths.{depth_by}
use Rattle.image.specs.Image.{frame_width}
use Rattle.pens.proofs.Pushed.{pushes_none}
use Rattle.image_parts.proofs.push_depth.Goals as goal

pub push-requires : goal.push-requires
push-requires c =
    let r = rw c.if-there.true at c.requires.x_bound in
    record { w_bound = (omega arith, c.requires.x_nonzero.2); w_bound_2 = omega (arith, r, length_bits frame_width (depth_by c.args.depths c.args.x - 1)) }

pub returns-then-there : goal.returns-then-there
returns-then-there c =
    rw (c.if-there.true, ← c.depth_of.ensures) c.push.ensures

pub returns : goal.returns
returns c = rw c.if-there.false (pushes_none c.args.out.now c.args.p c.requires.x_nonzero.2)
