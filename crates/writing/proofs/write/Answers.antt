-- `write` meets its contract: the store's faults, 1, 18, 10, or the fields and the padding.
use mathlib.Core.Path.{sym, ◌∙◌}
use Prim.Native.Nat.{ℕ, ◌+◌, ◌*◌, ◌≤◌}
use native.Mathlib.Omega.{arith}
use lib.ListN.{length, length-append}
use Rattle.std.proofs.lemmas.Result.{err_from_is_err_and}
use Rattle.store.specs.declared.Store.{Store}
use Rattle.image.specs.Image.{head_bits, shafts_bits, image_bits, length_in}
use Rattle.image.proofs.Refused.{store_refused, no_form, not_held, no_room}
use Rattle.writing.proofs.Outputs.{can_write, has_frame, refused_write, image_written}
use Rattle.writing.proofs.write.Goals as goal

-- space for the image has room for its fields
room : (form : ℕ) (s : Store) (n : ℕ) → length_in form s ≤ n → length (head_bits form s) + length (shafts_bits form s s.m) ≤ 8 * n
unfolding length_in image_bits
room form s n h = omega (arith, length-append (head_bits form s) (shafts_bits form s s.m))

pub returns-in_err-check : goal.returns-in_err-check
returns-in_err-check c =
    let a = c.args in
    let p = err_from_is_err_and c.from_residual.result c.from_residual.ensures.1 in
    rw (p.1, p.2) (refused_write a.form a.s _ _ (store_refused a.form a.s a.out.now c.in_err-check.field-0.0 (sym c.in_err-check.ensures.has)))

pub returns-then-form-gt2 : goal.returns-then-form-gt2
returns-then-form-gt2 c = let a = c.args in refused_write a.form a.s _ _ (no_form a.form a.s a.out.now c.in_ok-check.ensures.0 c.if-form-gt2.true)

pub returns-then-not-can_hold : goal.returns-then-not-can_hold
returns-then-not-can_hold c =
    let a = c.args in
    refused_write a.form a.s _ _ (not_held a.form a.s a.out.now c.in_ok-check.ensures.0 c.if-form-gt2.false (sym c.can_hold.ensures ∙ c.if-not-can_hold.true))

pub returns-then-out-length_in : goal.returns-then-out-length_in
returns-then-out-length_in c =
    let a = c.args in
    refused_write a.form a.s _ _
    (no_room a.form a.s a.out.now c.in_ok-check.ensures.0 c.if-form-gt2.false (sym c.can_hold.ensures ∙ c.if-not-can_hold.false) (omega (arith, c.length_in.ensures, c.if-out-length_in.true)))

pub write_head-head-requires-clause-m_nonzero : goal.write_head-head-requires-clause-m_nonzero
write_head-head-requires-clause-m_nonzero c = has_frame _ c.in_ok-check.ensures.0

pub write_head-head-requires-clause-s_len_bound : goal.write_head-head-requires-clause-s_len_bound
write_head-head-requires-clause-s_len_bound c = let a = c.args in omega (arith, room a.form a.s (length a.out.now) (omega (arith, c.length_in.ensures, c.if-out-length_in.false)))

pub write_shafts-all-requires-clause-can_write_below : goal.write_shafts-all-requires-clause-can_write_below
write_shafts-all-requires-clause-can_write_below c = can_write _ c.in_ok-check.ensures.0

pub write_shafts-all-requires-clause-full_bound : goal.write_shafts-all-requires-clause-full_bound
write_shafts-all-requires-clause-full_bound c =
    let a = c.args in
    let h = c.write_head-head.ensures in
    (h.full, omega (arith, h.count, h.same_length, room a.form a.s (length a.out.now) (omega (arith, c.length_in.ensures, c.if-out-length_in.false))))

pub pad-end-requires : goal.pad-end-requires
pad-end-requires c =
    let a = c.args in
    omega (arith, c.write_shafts-all.ensures, c.write_head-head.ensures, room a.form a.s (length a.out.now) (omega (arith, c.length_in.ensures, c.if-out-length_in.false)))

pub returns : goal.returns
returns c =
    let a = c.args in
    image_written a.form a.s _
    (record { sound = c.in_ok-check.ensures.0; known = c.if-form-gt2.false; held = sym c.can_hold.ensures ∙ c.if-not-can_hold.false; room = omega (arith, c.length_in.ensures, c.if-out-length_in.false) })
    _ _ _ _ _ _ c.write_head-head.ensures c.write_shafts-all.ensures c.pad-end.ensures
