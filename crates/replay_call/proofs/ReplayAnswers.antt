-- The answer of a replay on an image that was read: the store reached, to which lifts lead, handed back.
use mathlib.Core.List.{List}
use mathlib.Core.Path.{◌≡◌, sym, ap₂, ◌∙◌, subst}
use Prim.Native.Nat.{ℕ, ◌<◌}
use lib.ListN.{length, get_or}
use Rattle.store.specs.declared.Store.{Store}
use Rattle.store.specs.Accept.{Accepted}
use Rattle.store.specs.Lists.{Reachable}
use Rattle.replay.specs.declared.Played.{Played}
use Rattle.replay.specs.Replaying.{replay_from, replay}
use Rattle.replay.specs.Numbers.{end_number}
use Rattle.replay.specs.Promises.{PlayIs}
use Rattle.replay.proofs.Replays.{replay_accepted, from_reaches}
use Rattle.std.specs.Prelude.{Result}
use Rattle.calls.specs.declared.Lent.{Lent}
use Rattle.lifts.specs.declared.Refusal.{Refusal}
use Rattle.image.specs.declared.WriteFault.{WriteFault}
use Rattle.image.specs.Image.{image_in, form_in}
use Rattle.image.specs.Writing.{WriteIs}
use Rattle.calls.specs.HandedBack.{LentIs}
use Rattle.calls.specs.Shared.{answer_of, store_in, read_fault}
use Rattle.calls.proofs.HandedBack.{as_long, back_written, lent_answer_number}
use Rattle.calls.proofs.Readings.{stood_accepted}
use Rattle.replay_call.specs.ReplayCall.{ReplayCallIs}

replay_reaches : (s : Store) (list : List ℕ) → Accepted s → Reachable s (replay s list).reached
replay_reaches s list e = rw (replay_accepted s list e) (from_reaches s list)

module _ (a : List ℕ) (small : (i : ℕ) → get_or a i 0 < 256) (list : List ℕ) where
  -- "always as long as the one given"
  pub replay_as_long : read_fault a ≡ 0 → length (image_in (form_in a) (replay (store_in a) list).reached) ≡ length a
  replay_as_long e = as_long a small (replay_reaches (store_in a) list (stood_accepted a small e)).leads e

  pub replay_answered : {came out carries : List ℕ} {lent : Lent} {u : Store} {o : Played Refusal} {w : Result ℕ WriteFault} {f n r : ℕ} → LentIs a (length came) lent → lent_answer_number lent.answer ≡ 0
      → PlayIs (replay_from lent.store list) u carries o → f ≡ form_in a → WriteIs f u came out w → n ≡ end_number o.end → r ≡ answer_of o.count n
      → ReplayCallIs a list came r out
  replay_answered {came} {out} {carries} {lent} {u} {o} {w} {f} p z d form q g e =
      let b : Accepted (store_in a) = subst Accepted p.store (p.accepted z) in
      let d' : PlayIs (replay (store_in a) list) u carries o = rw (replay_accepted (store_in a) list b, ← p.store) d in
      back_written a small (replay_reaches (store_in a) list b).leads (sym p.number ∙ z) form (subst (λ (u : Store). WriteIs f u came out w) d'.store q) (e ∙ ap₂ answer_of d'.count (g ∙ d'.end.has))
