-- `try_lift` meets its contract: the lift is judged by the depth and the heights, and made in place where it is allowed.
use Prim.Native.Nat.{ℕ}
use mathlib.Core.Path.{◌≡◌, sym, ◌∙◌}
use Rattle.std.specs.Prelude.{Result}
use Rattle.std.proofs.lemmas.Result.{err_from_is_err_and}
use Rattle.lifts.specs.declared.Refusal.{Refusal}
use Rattle.lifts.specs.Lifting.{refusal_by}
use Rattle.lifts.specs.Numbers.{judged_number, Only}
use Rattle.store.specs.declared.Store.{Store}
use Rattle.store.specs.Lifts.{lift_refusal}
use Rattle.store.specs.Slots.{depth, height}
use Rattle.store.proofs.Lifting.{judged_in, can_carry, carried_store, tried_refused, tried_made}
use Rattle.store.proofs.Refusals.{none_allowed}
use Rattle.store.proofs.lift.try_lift.Goals as goal

-- the number that refuses the lift in the store
judged : {d left entered : ℕ} {r : Result Unit Refusal} (s : Store) (a b : ℕ) → d ≡ depth s b → left ≡ height s a → entered ≡ height s b
    → Only judged_number (refusal_by s.m d a b left entered) r → judged_number r ≡ lift_refusal s a b
judged s a b d l e o = o.has ∙ judged_in s _ _ d l e

pub returns-in_err-judge : goal.returns-in_err-judge
returns-in_err-judge c =
    let p = err_from_is_err_and c.from_residual.result c.from_residual.ensures.1 in
    rw (p.1, p.2) (tried_refused c.args.s.now _ _ _ (judged c.args.s.now _ _ c.depth_of-depth.ensures c.height_of-left.ensures c.height_of-entered.ensures c.in_err-judge.ensures))

pub carry-requires : goal.carry-requires
carry-requires c =
    can_carry c.args.s.now _ _ c.requires (none_allowed c.args.s.now _ _ (sym (judged c.args.s.now _ _ c.depth_of-depth.ensures c.height_of-left.ensures c.height_of-entered.ensures c.in_ok-judge.ensures)))

pub returns : goal.returns
returns c =
    let s = c.args.s.now in
    let k = c.carry.ensures in
    tried_made s _ _ _ _ c.requires (sym (judged s _ _ c.depth_of-depth.ensures c.height_of-left.ensures c.height_of-entered.ensures c.in_ok-judge.ensures)) (carried_store s _ _ k.heights_are k.slots_are) k.cassette k.row
