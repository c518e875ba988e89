-- `write_shaft` meets its contract: the depth where it is there, the height, and then the rows.
use mathlib.Core.Bool.{Bool}
use mathlib.Core.Path.{◌≡◌, ap, ap₂}
use Prim.Native.Nat.{ℕ, ◌+◌, ◌-◌, ◌*◌}
use native.Mathlib.Omega.{arith}
use lib.ListN.{length}
use Rattle.bits.proofs.Widths.{length_bits}
use Rattle.lifts.specs.Lifting.{height_in}
use Rattle.depths.specs.Depths.{depth_by}
use Rattle.store.specs.declared.Store.{Store}
use Rattle.image.specs.Image.{frame_width, height_width, cassette_width, own_depths, field_if, shaft_bits}
use Rattle.image.proofs.Forms.{width_most}
use Rattle.image.proofs.Lengths.{width_if, length_if, length_shaft}
use Rattle.image_parts.proofs.PartLaws.{shaft_written}
use Rattle.image_parts.proofs.write_shaft.Goals as goal

-- the fields of a shaft, counted
counted : (form : ℕ) (s : Store) (x : ℕ) (own : Bool) → own ≡ own_depths form
    → length (shaft_bits form s x) ≡ length (field_if own frame_width (depth_by s.depths x - 1)) + height_width + height_in s.heights x * cassette_width form
counted form s x own e =
    omega (arith, length_shaft form s.depths s.heights s.slots x, length_if own frame_width (depth_by s.depths x - 1), ap (λ (b : Bool). width_if b frame_width) e)

pub push_depth-deep-requires-clause-x_bound : goal.push_depth-deep-requires-clause-x_bound
push_depth-deep-requires-clause-x_bound c = omega (arith, c.requires.full_bound.1, counted c.args.form c.args.s.now c.args.x c.own_depths.result c.own_depths.ensures)

pub push-q-requires-clause-w_bound_2 : goal.push-q-requires-clause-w_bound_2
push-q-requires-clause-w_bound_2 c = omega (arith, c.requires.full_bound.1, counted c.args.form c.args.s.now c.args.x c.own_depths.result c.own_depths.ensures, c.push_depth-deep.ensures.count, c.push_depth-deep.ensures.same_length)

pub write_rows-requires-clause-w_le_wide_width : goal.write_rows-requires-clause-w_le_wide_width
write_rows-requires-clause-w_le_wide_width c =
    let a = c.args in
    let n : c.height_at-rows.result * c.cassette_width.result ≡ height_in a.s.now.heights a.x * cassette_width a.form = ap₂ ◌*◌ c.height_at-rows.ensures c.cassette_width.ensures in
    let d = c.push_depth-deep.ensures in
    let q = c.push-q.ensures in
    (omega (arith, c.cassette_width.ensures, width_most a.form), omega (arith, c.requires.full_bound.1, counted c.args.form c.args.s.now c.args.x c.own_depths.result c.own_depths.ensures, d.count, d.same_length, q.count, q.same_length, length_bits height_width c.height_at-rows.result))

pub returns : goal.returns
returns c =
    shaft_written _ _ _ _ _ _ _ c.own_depths.ensures c.height_at-rows.ensures c.push_depth-deep.ensures c.push-q.ensures (rw c.cassette_width.ensures at c.write_rows.ensures)
