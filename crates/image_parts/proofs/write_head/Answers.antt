-- `write_head` meets its contract: two fields of 4 bits or three, one after the other.
use mathlib.Core.Bool.{Bool, not}
use mathlib.Core.Path.{ap}
use Prim.Native.Nat.{◌-◌}
use native.Mathlib.Omega.{arith}
use Rattle.bits.proofs.Widths.{length_bits}
use Rattle.store.specs.Slots.{depth}
use Rattle.image.specs.Image.{form_width, frame_width}
use Rattle.image.proofs.Lengths.{width_if, length_if, length_head}
use Rattle.image_parts.proofs.PartLaws.{head_written}
use Rattle.image_parts.proofs.write_head.Goals as goal

pub push-named-requires : goal.push-named-requires
push-named-requires c =
    rw c.start.ensures (omega (arith, c.requires.s_len_bound, length_head c.args.form c.args.s))

pub push-size-requires : goal.push-size-requires
push-size-requires c =
    let f = rw c.start.ensures at c.push-named.ensures in
    omega (arith, c.requires.s_len_bound, length_head c.args.form c.args.s, length_bits form_width c.args.form)

pub push_depth-requires : goal.push_depth-requires
push_depth-requires c =
    let f = rw c.start.ensures at c.push-named.ensures in
    let a = c.args in record {
      x_nonzero = (c.requires.m_nonzero.1, c.requires.m_nonzero.2, c.push-size.ensures.full);
      x_bound = omega (
        arith,
        c.requires.s_len_bound,
        length_head a.form a.s,
        length_bits form_width a.form,
        length_bits frame_width (a.s.m - 1),
        c.push-size.ensures.count,
        c.push-size.ensures.same_length,
        length_if (not c.own_depths.result) frame_width (depth a.s 0 - 1),
        ap (λ (b : Bool). width_if (not b) frame_width) c.own_depths.ensures,
      );
    }

pub returns : goal.returns
returns c =
    head_written _ _ _ c.own_depths.ensures (rw c.start.ensures at c.push-named.ensures) c.push-size.ensures c.push_depth.ensures
