-- How the functions that replay a list answer: a replay from the middle of a list, and the outcome for each way to end.
use Rattle.std.proofs.Common.{◌≡◌, ℕ, suc, ◌+◌, ◌-◌, ◌*◌, ◌^◌, ◌<◌, List, ◌∷◌, length, get_or, drop, set, sym, refl, ap, ◌∙◌, subst, ap₂, add-one, arith, length-set, drop_of_length-le, drop-cons}
use native.Mathlib.Decide.{ℕ_discrete}
use Rattle.stacks.specs.Count.{count}
use Rattle.std.specs.Prelude.{Ok, Err}
use Rattle.lifts.specs.declared.Carried.{Carried}
use Rattle.lifts.specs.declared.Refusal.{Refusal}
use Rattle.lifts.specs.Bytes.{left, entered}
use Rattle.lifts.specs.Lifting.{most_rows, slot_count, shown}
use Rattle.lifts.specs.Numbers.{refusal_number}
use Rattle.lifts.proofs.Numbered.{refusal_one}
use Rattle.store.specs.declared.Store.{Store}
use Rattle.store.specs.declared.Fault.{Fault}
use Rattle.store.specs.Accept.{store_fault, Accepted}
use Rattle.store.specs.Lifts.{Allowed, lift_refusal, lifted}
use Rattle.store.specs.Numbers.{fault_number}
use Rattle.store.specs.Promises.{TriedIs}
use Rattle.store.specs.Slots.{height, top_of}
use Rattle.store.specs.Sound.{Shaped}
use Rattle.store.proofs.Acceptance.{accepted_shaped}
use Rattle.store.proofs.Checks.{fault_one}
use Rattle.store.proofs.Lifting.{tried_stays, tried_lifts}
use Rattle.store.proofs.Refusals.{none_allowed}
use Rattle.store.proofs.Typed.{each_set}
use Rattle.store.proofs.Views.{Moved, lift_moves, lifted_shaped}
use Rattle.replay.specs.declared.End.{End}
use Rattle.replay.specs.declared.Played.{Played}
use Rattle.replay.specs.Counting.{NoneCounted, CanCount, moved_on, CountIs}
use Rattle.replay.specs.Numbers.{end_number}
use Rattle.replay.specs.Promises.{carries_of, PlayIs, ReplayIs}
use Rattle.replay.specs.Replaying.{Outcome, one_more, none_done, replay_from, replay, times_carried}
use Rattle.replay.proofs.Carries.{none_carried, count_beside, carries_lifted}
use Rattle.replay.proofs.Ends.{only_end}
use Rattle.replay.proofs.Replays.{replay_goes, replay_stops, replay_accepted, replay_refuses}
use Rattle.replay.proofs.Times.{never_zero}

-- a lift counted or not, there are as many counts
pub count_length : {came out : List ℕ} {i j : ℕ} → CountIs came i j out → length out ≡ length came
count_length {came} {out} {i} {j} w =
    elim (ℕ_discrete (length came) slot_count) [
      | yes e ↦ ap length (w.moved e) ∙ length-set (set came i 0) j (suc (get_or came i 0)) ∙ length-set came i 0
      | no n ↦ ap length (w.none n)
    ]

-- The replay of a list from an accepted store s goes on from t with what is left after n lifts, and the counts beside the slots of t are those of the lifts
-- before.
pub record Goes (s : Store) (l : List ℕ) (t : Store) (carries : List ℕ) (n : ℕ) : Type 0 where
  pub accepted : Accepted s
  pub shaped : Shaped t
  pub reached : (replay_from s l).reached ≡ (replay_from t (drop n l)).reached
  pub done : (replay_from s l).count ≡ n + (replay_from t (drop n l)).count
  pub number : (replay_from s l).number ≡ (replay_from t (drop n l)).number
  pub counted : length carries ≡ slot_count → (c : ℕ) → times_carried (replay_from s l) c ≡ carries_of c t.slots carries + times_carried (replay_from t (drop n l)) c
  pub uncounted : (length carries ≡ slot_count → ⊥) → NoneCounted carries
  pub few : (i : ℕ) → get_or carries i 0 < suc n

pub goes_start : (s : Store) (l carries : List ℕ) → Accepted s → NoneCounted carries → Goes s l s carries 0
goes_start s l carries p z = record {
  accepted = p;
  shaped = accepted_shaped s p;
  reached = refl;
  done = omega arith;
  number = refl;
  counted = λ e c. omega (arith, none_carried c s.slots carries z);
  uncounted = λ n. z;
  few = λ i. omega (arith, z i);
}

module _ (s t : Store) (l carries : List ℕ) (n : ℕ) (g : Goes s l t carries n) where
  -- a replay that does nothing more ends here
  ends : (v : End Refusal) → replay_from t (drop n l) ≡ none_done t (end_number v) → PlayIs (replay_from s l) t carries (record { count = n; end = v })
  unfolding count
  ends v e = record {
    store = sym (g.reached ∙ ap (λ (o : Outcome). o.reached) e);
    count = omega (arith, g.done, ap (λ (o : Outcome). o.count) e);
    end = only_end (sym (g.number ∙ ap (λ (o : Outcome). o.number) e));
    counted = λ z c. omega (arith, g.counted z c, ap (λ (o : Outcome). times_carried o c) e);
    uncounted = g.uncounted;
  }

  pub goes_through : n ≡ length l → PlayIs (replay_from s l) t carries (record { count = length l; end = End.RunThrough })
  unfolding replay_from
  goes_through h =
      subst (λ (k : ℕ). PlayIs (replay_from s l) t carries (record { count = k; end = End.RunThrough })) h
      (ends End.RunThrough (ap (replay_from t) (drop_of_length-le l (omega arith))))

  -- the next lift, from x to y, was tried
  module _ (h : n < length l) {x y : ℕ} (a : x ≡ left (get_or l n 0)) (b : y ≡ entered (get_or l n 0)) where
    -- what is left after n lifts begins with it
    next : replay_from t (drop n l) ≡ replay_from t (get_or l n 0 ∷ drop (suc n) l)
    next = ap (replay_from t) (drop-cons l n 0 h)

    same_lift : lift_refusal t x y ≡ lift_refusal t (left (get_or l n 0)) (entered (get_or l n 0))
    same_lift = rw (a, b)

    pub goes_stopped : {u : Store} (f : Refusal) → TriedIs t x y u (Err f) → PlayIs (replay_from s l) u carries (record { count = n; end = End.Stopped f })
    goes_stopped f q =
        let k : refusal_number f ≡ lift_refusal t x y = q.answer.has in
        rw (tried_stays t x y q (λ z. refusal_one f (k ∙ z)))
        (ends (End.Stopped f) (next ∙ replay_stops t _ _ (refusal_number f) (sym (k ∙ same_lift)) (refusal_one f)))

    -- and made
    module _ {u : Store} {r : Carried} (q : TriedIs t x y u (Ok r)) where
      none_refuses : lift_refusal t x y ≡ 0
      none_refuses = q.answer.0

      allowed : Allowed t x y
      allowed = none_allowed t x y none_refuses

      made : u ≡ lifted t x y
      made = tried_lifts t x y q none_refuses

      moved : Moved t x y u
      moved = subst (Moved t x y) (sym made) (lift_moves t x y g.shaped allowed)

      -- it can be counted
      pub can_count : length l < 2 ^ 64 → CanCount carries u.heights x y r.row.0
      can_count i = record {
        left_below = omega (arith, allowed.left_below, g.shaped.shafts);
        left_row = omega (arith, moved.lower, g.shaped.heights x, g.shaped.rows x);
        entered_below = omega (arith, allowed.entered_below, g.shaped.shafts);
        entered_row = (omega (arith, q.answer.1.0.top, moved.higher), omega (arith, q.answer.1.0.top, moved.higher, allowed.room, g.shaped.rows y));
        few = omega (arith, g.few (16 * x + height u x));
      }

      lifts_next : replay_from t (drop n l) ≡ one_more (top_of t x) (replay_from u (drop (suc n) l))
      lifts_next = rw (made, a, b) (next ∙ replay_goes t _ _ (sym same_lift ∙ none_refuses))

      -- nothing is counted beside the slot that it enters
      none_entered : length carries ≡ slot_count → get_or carries (16 * y + height t y) 0 ≡ 0
      unfolding shown
      none_entered e =
          let i = 16 * y + height t y in
          let k : height t y < most_rows = omega (arith, allowed.room, g.shaped.rows y) in
          let o : get_or t.slots i 0 ≡ 0 = g.shaped.none_above y (height t y) (omega (arith, allowed.entered_below, g.shaped.shafts)) k (omega arith) in
          omega (
            arith,
            count_beside t.slots carries i (omega (arith, allowed.entered_below, g.shaped.shafts)),
            ap (λ (v : ℕ). carries_of v t.slots carries) o,
            g.counted e 0,
            never_zero s l g.accepted,
          )

      pub goes_lifted : {carries' : List ℕ} → CountIs carries (16 * x + height u x) (16 * y + (r.row.0 - 1)) carries' → Goes s l u carries' (n + 1)
      unfolding count
      goes_lifted {carries'} w =
          let i = 16 * x + height u x in
          let j = 16 * y + (r.row.0 - 1) in
          let left : i ≡ 16 * x + (height t x - 1) = omega (arith, moved.lower) in
          let entered : j ≡ 16 * y + height t y = omega (arith, q.answer.1.0.top, moved.higher) in
          rw (add-one) (record {
            accepted = g.accepted;
            shaped = subst Shaped (sym made) (lifted_shaped t x y g.shaped allowed);
            reached = g.reached ∙ ap (λ (o : Outcome). o.reached) lifts_next;
            done = omega (arith, g.done, ap (λ (o : Outcome). o.count) lifts_next);
            number = g.number ∙ ap (λ (o : Outcome). o.number) lifts_next;
            counted = λ e v. elim (ℕ_discrete (length carries) slot_count) [
              | yes f ↦ omega (
                arith,
                g.counted f v,
                ap (λ (o : Outcome). times_carried o v) lifts_next,
                ap₂ (carries_of v) (ap (λ (u : Store). u.slots) made) (w.moved f ∙ ap₂ (moved_on carries) left entered),
                carries_lifted t x y g.shaped allowed carries f (none_entered f) v,
              )
              | no m ↦ absurd (m (ap length (sym (w.none m)) ∙ e))
            ];
            uncounted = λ m. elim (ℕ_discrete (length carries) slot_count) [
              | yes f ↦ absurd (m (count_length w ∙ f))
              | no n ↦ subst NoneCounted (sym (w.none n)) (g.uncounted n)
            ];
            few = λ k. elim (ℕ_discrete (length carries) slot_count) [
              | yes f ↦
                  (let rest : (k : ℕ) → get_or (set carries i 0) k 0 < suc (suc n) = each_set (λ h. h < suc (suc n)) carries i 0 (omega arith) (λ k. omega (arith, g.few k)) in
                  rw (w.moved f) (each_set (λ h. h < suc (suc n)) (set carries i 0) j (suc (get_or carries i 0)) (omega (arith, g.few i)) rest k))
              | no m ↦ rw (w.none m) (omega (arith, g.few k))
            ];
          })

pub replay_played : (s t : Store) (l carries : List ℕ) (r : Played Refusal) → store_fault s ≡ 0 → length carries ≡ slot_count → PlayIs (replay_from s l) t carries r
    → ReplayIs (replay s l) (record { store = t; carries = carries; count = r.count; end = r.end })
replay_played s t l carries r e n p = rw (replay_accepted s l e) (record { store = p.store; count = p.count; end = p.end; carries = p.counted n })

pub replay_refused : (s : Store) (l : List ℕ) (carries : List ℕ) (f : Fault) → store_fault s ≡ fault_number f → NoneCounted carries
    → ReplayIs (replay s l) (record { store = s; carries = carries; count = 0; end = End.StoreRefused f })
unfolding count
replay_refused s l carries f e z =
    let p = replay_refuses s l (fault_number f) e (fault_one f) in
    record {
      store = ap (λ (o : Outcome). o.reached) (sym p);
      count = ap (λ (o : Outcome). o.count) (sym p);
      end = only_end (ap (λ (o : Outcome). o.number) (sym p));
      carries = λ c. none_carried c s.slots carries z ∙ ap (λ (o : Outcome). times_carried o c) (sym p);
    }
