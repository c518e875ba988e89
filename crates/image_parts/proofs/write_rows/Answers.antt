-- `write_rows` meets its contract: after k turns the first k rows are written.
use mathlib.Core.Path.{◌≡◌, ap, ◌∙◌}
use Prim.Native.Nat.{ℕ, suc, ◌*◌, ◌≤◌}
use native.Mathlib.Nat.{suc-mul, mul-le-mul, le_refl}
use native.Mathlib.Omega.{arith}
use lib.ListN.{length}
use Rattle.rows.specs.Rows.{rows_up}
use Rattle.image.specs.Coding.{coded, cassette_bits}
use Rattle.image.proofs.Coding.{length_cassettes}
use Rattle.rows.proofs.Upward.{rows_length}
use Rattle.image_parts.proofs.PartLaws.{no_rows, row_more}
use Rattle.image_parts.proofs.write_rows.Goals as goal

pub push-q-requires-clause-w_bound_2 : goal.push-q-requires-clause-w_bound_2
push-q-requires-clause-w_bound_2 c =
    let k = c.loop-k in
    let a = c.args in
    let n : length (cassette_bits a.w (rows_up a.slots.now a.x k.k)) ≡ k.k * a.w = length_cassettes a.w (rows_up a.slots.now a.x k.k) ∙ ap (λ (i : ℕ). i * a.w) (rows_length a.slots.now a.x k.k) in
    let all : suc k.k * a.w ≤ a.rows * a.w = mul-le-mul c.loop-k-test.true (le_refl a.w) in
    omega (arith, c.requires.w_le_wide_width.1, suc-mul k.k a.w, k.invariant.count, k.invariant.same_length)

pub loop-k-preserved : goal.loop-k-preserved
loop-k-preserved c =
    let k = c.loop-k in
    let w = c.args.w in
    row_more w _ _ k.k _ (c.coded.ensures ∙ ap (coded w) c.slot_at.ensures) k.invariant c.push-q.ensures

pub returns : goal.returns
returns c = let e : c.loop-k.k ≡ c.args.rows = omega arith in rw e at c.loop-k.invariant

pub loop-k-init : goal.loop-k-init
loop-k-init c = let a = c.args in no_rows a.w a.slots.now a.x a.out.now a.p c.requires.x_lt_most_shafts.2
