-- A log on which all is true leads where the replay of its lifts does; and a log of lifts only, all true, is the replay of their bytes: the store, the count and the
-- cassettes carried, which are the numbers that it names.
use borrow.Author.Tests.{eq-eqb}
use mathlib.Core.List.{List, [], ◌∷◌}
use mathlib.Core.Path.{◌≡◌, refl, sym, ap, ap₂, ◌∙◌, subst}
use Prim.Native.Nat.{ℕ, suc, ◌<◌}
use native.Mathlib.Omega.{arith}
use lib.ListN.{take}
use lib.Seq.{take_all}
use Rattle.lifts.specs.Bytes.{lift_byte}
use Rattle.store.specs.declared.Store.{Store}
use Rattle.store.specs.Accept.{Accepted}
use Rattle.store.specs.Lifts.{lift_refusal, lifted}
use Rattle.store.specs.Lists.{Leads}
use Rattle.store.specs.Slots.{top_of}
use Rattle.store.specs.Sound.{Shaped}
use Rattle.store.proofs.Acceptance.{accepted_shaped}
use Rattle.store.proofs.Refusals.{allowed_none}
use Rattle.replay.specs.Replaying.{one_more, replay_from, replay}
use Rattle.replay.proofs.Replays.{replay_goes, replay_accepted, replay_leads}
use Rattle.entries.specs.declared.Entry.{Entry}
use Rattle.entries.specs.Entries.{after_entry}
use Rattle.entries.proofs.Comparing.{true_none, after_lift_lem}
use Rattle.logs.specs.Following.{Following, entries_of, follow_from, follow}
use Rattle.logs.specs.Whole.{lifts_of, TrueEntries, LiftsOnly, as_replay}
use Rattle.logs.proofs.Following.{follow_goes, after_shaped, follow_entries}
use Rattle.logs.proofs.Runs.{length_entries, byte_shafts}
use Rattle.logs.proofs.Whole.{first_true, accepted_true, accepted_count, follow_leads}

-- a replay whose first lift is allowed
replay_first : (s : Store) (a b : ℕ) (bs : List ℕ) → b < 16 → lift_refusal s a b ≡ 0 → replay_from s (lift_byte a b ∷ bs) ≡ one_more (top_of s a) (replay_from (lifted s a b) bs)
replay_first s a b bs h z =
    let i = byte_shafts a b h in
    replay_goes s (lift_byte a b) bs (rw (i.0, i.1) z) ∙ rw (i.0, i.1)

lifts_replayed : (s : Store) (es : List Entry) → Shaped s → LiftsOnly es → TrueEntries s es → replay_from s (lifts_of es) ≡ as_replay (follow_from s es) es
unfolding lifts_of follow_from replay_from
lifts_replayed s [] p k q = refl
lifts_replayed s (e ∷ es) p k q =
    let z : e.kind ≡ 0 = k 0 (omega arith) in
    let r = first_true s e es p q in
    let f = r.0 in
    let t = after_entry s e in
    let first : replay_from s (lift_byte e.shaft.0 e.second.0 ∷ lifts_of es) ≡ one_more (top_of s e.shaft.0) (replay_from (lifted s e.shaft.0 e.second.0) (lifts_of es))
    = replay_first s e.shaft.0 e.second.0 (lifts_of es) (omega (arith, f.formed.second_below, p.shafts)) (allowed_none s e.shaft.0 e.second.0 (f.allowed z)) in
    let rest : replay_from t (lifts_of es) ≡ as_replay (follow_from t es) es = lifts_replayed t es (after_shaped s e p f) (λ i h. k (suc i) (omega arith)) r.1 in
    rw (eq-eqb e.kind 0 z)
    (first
    ∙ ap₂ one_more (sym f.number) (ap (λ (u : Store). replay_from u (lifts_of es)) (sym (after_lift_lem s e z)) ∙ rest)
    ∙ ap (λ (o : Following). as_replay o (e ∷ es)) (sym (follow_goes s e es (true_none s e f))))

module _ (s : Store) (log : List ℕ) (p : Accepted s) (f : (follow s log).number ≡ 0) where
  -- with sightings too, the store is that of the replay
  pub accepted_replayed : let o = replay s (lifts_of (entries_of log)) in (o.reached ≡ (follow s log).reached) × (o.number ≡ 0)
  accepted_replayed =
      let es = entries_of log in
      let all : take (follow s log).entry es ≡ es = take_all (follow s log).entry es (omega (arith, accepted_count s log p f, length_entries log)) in
      let r = replay_leads (subst (λ (es : List Entry). Leads s (lifts_of es) (follow s log).reached) all (follow_leads s log p)) in
      rw (replay_accepted s (lifts_of es) p) (r.0, r.2)

  pub lifts_only_replayed : LiftsOnly (entries_of log) → replay s (lifts_of (entries_of log)) ≡ as_replay (follow s log) (entries_of log)
  lifts_only_replayed k =
      let q = accepted_true s log p f in
      replay_accepted s (lifts_of (entries_of log)) p ∙ lifts_replayed s (entries_of log) (accepted_shaped s p) k q.entries
      ∙ ap (λ (o : Following). as_replay o (entries_of log)) (sym (follow_entries s log p q.whole))
