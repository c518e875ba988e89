-- Two answers that keep the promise of a replay are the same (document 01, "Agreement on the contracts"), but for how the carries of blanks, which are counted
-- together (request 5/13), are spread over the slots that show one. Any other cassette stands once, and what was counted for it stands beside its slot.
use Rattle.std.proofs.Common.{◌≡◌, ℕ, ◌<◌, false, eqb, List, length, get_or, sym, refl, ap, ◌∙◌, arith, ext_get_or, eq-eqb, ne_eqb}
use native.Mathlib.Decide.{ℕ_discrete}
use Rattle.stacks.specs.Count.{count}
use Rattle.stacks.proofs.Sums.{sum_alone}
use Rattle.marks.specs.Cassettes.{is_blank, given}
use Rattle.lifts.specs.declared.Refusal.{Refusal}
use Rattle.lifts.specs.Lifting.{slot_count}
use Rattle.store.specs.declared.Store.{Store}
use Rattle.store.specs.Accept.{store_fault, Accepted}
use Rattle.reach.proofs.Lasting.{leads_accepted}
use Rattle.reach.proofs.OnePlace.{one_slot}
use Rattle.replay.specs.declared.Played.{Played}
use Rattle.replay.specs.declared.Replayed.{Replayed}
use Rattle.replay.specs.Promises.{carries_of, PlayIs, ReplayIs}
use Rattle.replay.specs.Replaying.{Outcome, replay_from, replay, times_carried}
use Rattle.replay.specs.Same.{SameCarries, SameReplay, SamePlay}
use Rattle.replay.proofs.Carries.{count_beside}
use Rattle.replay.proofs.Playing.{replay_played}
use Rattle.replay.proofs.Replays.{replay_accepted, replay_refuses, from_reaches}
use Rattle.replay.proofs.Times.{never_zero}

-- where one slot alone shows its number, the count of the number is the one beside it
alone : (slots carries : List ℕ) (i : ℕ) → i < slot_count → ((j : ℕ) → j < slot_count → get_or slots j 0 ≡ get_or slots i 0 → j ≡ i) → carries_of (get_or slots i 0) slots carries ≡ get_or carries i 0
unfolding carries_of
alone slots carries i h f =
    let c = get_or slots i 0 in
    sum_alone slot_count (λ j. given (eqb c (get_or slots j 0)) (get_or carries j 0)) i h
    (λ j l n. ap (λ b. given b (get_or carries j 0)) (ne_eqb c (get_or slots j 0) (λ e. n (f j l (sym e)))))
    ∙ ap (λ b. given b (get_or carries i 0)) (eq-eqb c c refl)

-- the count beside each slot, by how often each number was carried
module _ (s : Store) (bs carries : List ℕ) (o : (c : ℕ) → carries_of c (replay s bs).reached.slots carries ≡ times_carried (replay s bs) c) where
  -- a number that was never carried has 0
  none_beside : (i : ℕ) → i < slot_count → times_carried (replay s bs) (get_or (replay s bs).reached.slots i 0) ≡ 0 → get_or carries i 0 ≡ 0
  none_beside i h z = omega (arith, count_beside (replay s bs).reached.slots carries i h, o (get_or (replay s bs).reached.slots i 0))

  beside : (i : ℕ) → i < slot_count → is_blank (get_or (replay s bs).reached.slots i 0) ≡ false → get_or carries i 0 ≡ times_carried (replay s bs) (get_or (replay s bs).reached.slots i 0)
  unfolding count
  beside i h b =
      let slots = (replay s bs).reached.slots in
      let c = get_or slots i 0 in
      elim (ℕ_discrete (store_fault s) 0) [
        | yes e ↦
            (let p : Accepted (replay s bs).reached = rw (replay_accepted s bs e) (leads_accepted e (from_reaches s bs).leads) in
            elim (ℕ_discrete c 0) [
              | yes z ↦
                  (let n : times_carried (replay s bs) c ≡ 0 = ap (times_carried (replay s bs)) z ∙ ap (λ (o : Outcome). times_carried o 0) (replay_accepted s bs e) ∙ never_zero s bs e in
                  none_beside i h n ∙ sym n)
              | no n ↦ sym (alone slots carries i h (λ j l f. one_slot (replay s bs).reached p c b n j i l h f refl)) ∙ o c
            ])
        | no n ↦
            (let z : times_carried (replay s bs) c ≡ 0 = ap (λ (o : Outcome). times_carried o c) (replay_refuses s bs (store_fault s) refl n) in
            none_beside i h z ∙ sym z)
      ]

same_carries : (s : Store) (bs : List ℕ) {t : Store} (k l : List ℕ) → t ≡ (replay s bs).reached → ((c : ℕ) → carries_of c t.slots k ≡ times_carried (replay s bs) c)
    → ((c : ℕ) → carries_of c t.slots l ≡ times_carried (replay s bs) c) → SameCarries t.slots k l
same_carries s bs k l e p q = record {
  numbers = λ c. p c ∙ sym (q c);
  beside = rw e λ i h b. beside s bs k (λ c. rw e at (p c)) i h b ∙ sym (beside s bs l (λ c. rw e at (q c)) i h b);
}

pub replay_exact : (s : Store) (bs : List ℕ) {x y : Replayed} → ReplayIs (replay s bs) x → ReplayIs (replay s bs) y → SameReplay x y
replay_exact s bs {x} {y} p q = record {
  store = p.store ∙ sym q.store;
  count = p.count ∙ sym q.count;
  end = q.end.alone x.end p.end.has;
  carries = same_carries s bs x.carries y.carries p.store p.carries (λ c. ap (λ (t : Store). carries_of c t.slots y.carries) (p.store ∙ sym q.store) ∙ q.carries c);
}

-- so it is with lifts made in a lent store, however many counts are lent
pub play_exact : (s : Store) (bs : List ℕ) → Accepted s → {t u : Store} {k l : List ℕ} {x y : Played Refusal} → length k ≡ length l → PlayIs (replay_from s bs) t k x
    → PlayIs (replay_from s bs) u l y → SamePlay t u k l x y
play_exact s bs e {t} {u} {k} {l} {x} {y} n p q = record {
  store = p.store ∙ sym q.store;
  played = λ i. record { count = (p.count ∙ sym q.count) i; end = q.end.alone x.end p.end.has i };
  counted = λ f. (replay_exact s bs (replay_played s t bs k x e f p) (replay_played s u bs l y e (sym n ∙ f) q)).carries;
  uncounted = λ m. ext_get_or 0 k l n λ i h. p.uncounted m i ∙ sym (q.uncounted (λ f. m (n ∙ f)) i);
}
