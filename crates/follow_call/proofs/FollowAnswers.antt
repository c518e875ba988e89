-- The answer of a log followed on an image that was read: the store that its lifts lead to, handed back.
use mathlib.Core.List.{List}
use mathlib.Core.Path.{◌≡◌, sym, ap, ap₂, ◌∙◌, subst}
use Prim.Native.Nat.{ℕ, ◌%◌, ◌<◌}
use lib.ListN.{length, get_or}
use Rattle.store.specs.declared.Store.{Store}
use Rattle.store.specs.Accept.{Accepted}
use Rattle.std.specs.Prelude.{Result}
use Rattle.calls.specs.declared.Lent.{Lent}
use Rattle.replay.specs.declared.Played.{Played}
use Rattle.entries.specs.declared.Untrue.{Untrue}
use Rattle.image.specs.declared.WriteFault.{WriteFault}
use Rattle.image.specs.Image.{image_in, form_in}
use Rattle.image.specs.Writing.{WriteIs}
use Rattle.logs.specs.Following.{Following, follow}
use Rattle.logs.specs.Numbers.{log_end_number}
use Rattle.logs.specs.Promises.{TracedIs}
use Rattle.logs.proofs.Following.{follow_wrong}
use Rattle.logs.proofs.Whole.{follow_leads}
use Rattle.calls.specs.HandedBack.{LentIs}
use Rattle.calls.specs.Shared.{answer_of, store_in, read_fault}
use Rattle.calls.proofs.HandedBack.{as_long, back_written, lent_answer_number}
use Rattle.calls.proofs.Readings.{own_image, stood_accepted}
use Rattle.follow_call.specs.FollowCall.{FollowCallIs}

module _ (a : List ℕ) (small : (i : ℕ) → get_or a i 0 < 256) (log : List ℕ) where
  -- what is written is as long as the image given
  pub follow_as_long : read_fault a ≡ 0 → length (image_in (form_in a) (follow (store_in a) log).reached) ≡ length a
  follow_as_long e = as_long a small (follow_leads (store_in a) log (stood_accepted a small e)) e

  -- for a log of a wrong length it is the image given
  pub wrong_length_own : read_fault a ≡ 0 → (length log % 3 ≡ 0 → ⊥) → image_in (form_in a) (follow (store_in a) log).reached ≡ a
  wrong_length_own e n =
      let i = own_image a small e in
      ap (λ (o : Following). image_in (form_in a) o.reached) (follow_wrong (store_in a) log i.sound n) ∙ i.is

  pub follow_answered : {came out : List ℕ} {lent : Lent} {u : Store} {o : Played Untrue} {w : Result ℕ WriteFault} {f n r : ℕ} → LentIs a (length came) lent → lent_answer_number lent.answer ≡ 0
      → TracedIs (follow lent.store log) u o → f ≡ form_in a → WriteIs f u came out w → n ≡ log_end_number o.end → r ≡ answer_of o.count n
      → FollowCallIs a log came r out
  follow_answered {came} {out} {lent} {u} {o} {w} {f} p z d form q g e =
      let b : Accepted (store_in a) = subst Accepted p.store (p.accepted z) in
      let d' : TracedIs (follow (store_in a) log) u o = rw (← p.store) d in
      back_written a small (follow_leads (store_in a) log b) (sym p.number ∙ z) form (subst (λ (u : Store). WriteIs f u came out w) d'.store q) (e ∙ ap₂ answer_of d'.entry (g ∙ d'.end.has))
