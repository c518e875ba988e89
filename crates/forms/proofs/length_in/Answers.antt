-- `length_in` meets its contract: the bits counted, and as many bytes as hold them.
use borrow.Author.Rules.{rules}
use Prim.Native.Nat.{ℕ, ◌*◌, ◌≤◌}
use mathlib.Core.Path.{◌≡◌, ap₂}
use mir.Syntax.{w16}
use mir.Val.{Fits}
use native.Mathlib.Nat.{mul-le-mul}
use Rattle.stacks.specs.Count.{sum}
use Rattle.store.specs.Slots.{height}
use native.Mathlib.Omega.{arith}
use Rattle.image.specs.Image.{own_depths, cassette_width, depth_fields, wide_width, length_in}
use Rattle.image.proofs.Forms.{width_most}
use Rattle.image.proofs.Lengths.{length_image, few_fields}
use Rattle.forms.proofs.length_in.Goals as goal

-- the bits of the cassettes are few, and so are the depths named
few_bits : (form n w : ℕ) → n ≤ 65535 → w ≡ cassette_width form → n * w ≤ 65535 * wide_width
few_bits form n w h e = let narrow : w ≤ wide_width = omega (arith, e, width_most form) in mul-le-mul h narrow

few : (form m d : ℕ) → m ≤ 255 → d ≡ depth_fields form m → d ≤ 255
few form m d h e = omega (arith, e, few_fields (own_depths form) m 255 h (omega arith))

pub overflow_mul-bits-3 : goal.overflow_mul-bits-3
overflow_mul-bits-3 c =
    let n : Fits w16 c.sum_of-n.result = search rules in
    omega (arith, few_bits c.args.form c.sum_of-n.result c.cassette_width.result (omega (arith, n.fits)) c.cassette_width.ensures)

pub overflow_add-bits-3 : goal.overflow_add-bits-3
overflow_add-bits-3 c =
    let n : Fits w16 c.sum_of-n.result = search rules in
    omega (arith, few_bits c.args.form c.sum_of-n.result c.cassette_width.result (omega (arith, n.fits)) c.cassette_width.ensures, few c.args.form c.args.s.m c.depth_fields.result (omega arith) c.depth_fields.ensures)

pub overflow_add-result : goal.overflow_add-result
overflow_add-result c =
    let n : Fits w16 c.sum_of-n.result = search rules in
    omega (arith, few_bits c.args.form c.sum_of-n.result c.cassette_width.result (omega (arith, n.fits)) c.cassette_width.ensures, few c.args.form c.args.s.m c.depth_fields.result (omega arith) c.depth_fields.ensures)

pub returns : goal.returns
unfolding length_in
returns c =
    let a = c.args in
    let n : c.sum_of-n.result * c.cassette_width.result ≡ sum a.s.m (height a.s) * cassette_width a.form = ap₂ ◌*◌ c.sum_of-n.ensures c.cassette_width.ensures in
    omega (arith, c.depth_fields.ensures, length_image a.form a.s)
