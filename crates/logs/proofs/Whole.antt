-- "A log on an accepted store is accepted exactly if nothing in it is 19, every lift is legal and each number is the one the store shows" (document 02, 9/13): what
-- following a log entry by entry comes to, told by the whole log.
use borrow.Author.Tests.{eq-eqb, ne_eqb}
use mathlib.Core.List.{List, [], ◌∷◌}
use mathlib.Core.Path.{◌≡◌, refl, sym, ap, ◌∙◌, subst}
use Prim.Native.Nat.{ℕ, zero, suc, ◌/◌, ◌%◌, ◌≤◌, ◌<◌}
use native.Mathlib.Decide.{ℕ_discrete}
use native.Mathlib.Omega.{arith}
use lib.ListN.{length, take}
use Rattle.lifts.specs.Bytes.{lift_byte}
use Rattle.store.specs.declared.Store.{Store}
use Rattle.store.specs.Accept.{Accepted}
use Rattle.store.specs.Lifts.{Allowed, lifted}
use Rattle.store.specs.Lists.{Leads, ended, then}
use Rattle.store.specs.Slots.{top_of}
use Rattle.store.specs.Sound.{Shaped}
use Rattle.store.proofs.Acceptance.{accepted_shaped}
use Rattle.entries.specs.declared.Entry.{Entry}
use Rattle.entries.specs.Entries.{Formed, entry_fault, after_entry}
use Rattle.entries.proofs.Comparing.{True, none_true_lem, true_none, after_lift_lem, after_sighting}
use Rattle.logs.specs.Following.{Following, one_more, none_true, entries_of, follow_from, follow}
use Rattle.logs.specs.Whole.{entry_at, lifts_of, TrueEntries, TrueLog, StopsAt}
use Rattle.logs.proofs.Following.{follow_goes, follow_stops, follow_wrong, follow_entries, after_shaped, after_leads, followed_leads}
use Rattle.logs.proofs.Runs.{length_entries, byte_shafts}

module _ (s : Store) (e : Entry) where
  -- a followed entry changes no shaft count
  after_shafts : (after_entry s e).m ≡ s.m
  unfolding after_entry lifted
  after_shafts = elim (ℕ_discrete e.kind 0) [ yes z ↦ rw (eq-eqb e.kind 0 z) | no n ↦ rw (ne_eqb e.kind 0 n) ]

  -- the lifts of an entry and the others: its own comes first, and is allowed
  leads_after : (es : List Entry) {t : Store} → Formed s.m e → s.m ≤ 16 → Leads s (lifts_of (e ∷ es)) t → (e.kind ≡ 0 → Allowed s e.shaft.0 e.second.0) × Leads (after_entry s e) (lifts_of es) t
  unfolding lifts_of
  leads_after es {t} p h l =
      elim (ℕ_discrete e.kind 0) [
        | yes z ↦ (let q = first_lift e.shaft.0 e.second.0 (lifts_of es) (omega (arith, p.second_below)) (rw (eq-eqb e.kind 0 z) at l) in (λ _. q.0, subst (λ (u : Store). Leads u (lifts_of es) t) (sym (after_lift_lem s e z)) q.1))
        | no n ↦ (λ z. absurd (n z), subst (λ (u : Store). Leads u (lifts_of es) t) (sym (after_sighting s e n)) (rw (ne_eqb e.kind 0 n) at l))
      ]
    where
      first_lift : (a b : ℕ) (bs : List ℕ) → b < 16 → Leads s (lift_byte a b ∷ bs) t → Allowed s a b × Leads (lifted s a b) bs t
      first_lift a b bs h (then q r) = let i = byte_shafts a b h in (rw (i.0, i.1) at q, rw (i.0, i.1) at r)

-- the empty list leads to the store itself
stays : {s t : Store} → Leads s [] t → s ≡ t
stays ended = refl

-- entries that are all true: the first, and the others in the store after it
module _ (s : Store) (e : Entry) (es : List Entry) (p : Shaped s) where
  true_first : True s e → TrueEntries (after_entry s e) es → TrueEntries s (e ∷ es)
  unfolding lifts_of
  true_first q r = record { formed = formed; legal = record { to = r.legal.to; leads = after_leads s e es p q r.legal.leads }; shown = shown }
    where
      formed : (i : ℕ) → i < suc (length es) → Formed s.m (entry_at (e ∷ es) i)
      formed zero h = q.formed
      formed (suc i) h = subst (λ (m : ℕ). Formed m (entry_at es i)) (after_shafts s e) (r.formed i (omega arith))

      shown : (i : ℕ) (t : Store) → i < suc (length es) → Leads s (lifts_of (take i (e ∷ es))) t → (entry_at (e ∷ es) i).number ≡ top_of t (entry_at (e ∷ es) i).shaft.0
      shown zero t h l = q.number ∙ ap (λ (u : Store). top_of u e.shaft.0) (stays l)
      shown (suc i) t h l = r.shown i t (omega arith) (leads_after s e (take i es) q.formed p.shafts l).1

  pub first_true : TrueEntries s (e ∷ es) → True s e × TrueEntries (after_entry s e) es
  unfolding lifts_of
  first_true q =
      let w = q.formed 0 (omega arith) in
      let l = leads_after s e es w p.shafts q.legal.leads in
      let f : True s e = record { formed = w; allowed = l.0; number = q.shown 0 s (omega arith) ended } in (
        f,
        record {
          formed = λ i h. subst (λ (m : ℕ). Formed m (entry_at es i)) (sym (after_shafts s e)) (q.formed (suc i) (omega arith));
          legal = record { to = q.legal.to; leads = l.1 };
          shown = λ i t h k. q.shown (suc i) t (omega arith) (after_leads s e (take i es) p f k);
        },
      )

-- where entries are followed to their end, nothing is said against the first
first_free : (s : Store) (e : Entry) (es : List Entry) → (follow_from s (e ∷ es)).number ≡ 0 → entry_fault s e ≡ 0
first_free s e es f =
    elim (ℕ_discrete (entry_fault s e) 0) [
      | yes z ↦ z
      | no n ↦ sym (ap (λ (o : Following). o.number) (follow_stops s e es _ refl n)) ∙ f
    ]

-- entries that are followed to their end are all true, and are followed to their end where they are
pub followed_true : (s : Store) (es : List Entry) → Shaped s → (follow_from s es).number ≡ 0 → TrueEntries s es
unfolding follow_from lifts_of
followed_true s [] p f = record { formed = λ i h. absurd (omega arith); legal = record { to = s; leads = ended }; shown = λ i t h. absurd (omega arith) }
followed_true s (e ∷ es) p f =
    let z = first_free s e es f in
    let q = none_true_lem s e z in
    true_first s e es p q (followed_true (after_entry s e) es (after_shaped s e p q) (rw (follow_goes s e es z) at f))

pub true_followed : (s : Store) (es : List Entry) → Shaped s → TrueEntries s es → (follow_from s es).number ≡ 0
unfolding follow_from
true_followed s [] p q = refl
true_followed s (e ∷ es) p q =
    let r = first_true s e es p q in
    ap (λ (o : Following). o.number) (follow_goes s e es (true_none s e r.0)) ∙ true_followed (after_entry s e) es (after_shaped s e p r.0) r.1

-- then each is counted
pub all_counted : (s : Store) (es : List Entry) → (follow_from s es).number ≡ 0 → (follow_from s es).entry ≡ length es
unfolding follow_from
all_counted s [] f = refl
all_counted s (e ∷ es) f = let g = follow_goes s e es (first_free s e es f) in rw g (ap suc (all_counted (after_entry s e) es (rw g at f)))

-- else it is stopped at the first that can't be true
pub stops_at : (s : Store) (es : List Entry) → Shaped s → let o = follow_from s es in (o.number ≡ 0 → ⊥) → StopsAt s es o.entry o.reached o.number
unfolding follow_from lifts_of
stops_at s [] p n = absurd (n refl)
stops_at s (e ∷ es) p n =
    elim (ℕ_discrete (entry_fault s e) 0) [
      | yes z ↦
          (let g = follow_goes s e es z in
          let q = none_true_lem s e z in
          let o = follow_from (after_entry s e) es in
          let r = stops_at (after_entry s e) es (after_shaped s e p q) (λ y. n (ap (λ (o : Following). o.number) g ∙ y)) in
          rw g (record {
            there = omega (arith, r.there);
            before = true_first s e (take o.entry es) p q r.before;
            leads = after_leads s e (take o.entry es) p q r.leads;
            fault = r.fault;
            untrue = r.untrue;
          }))
      | no m ↦ rw (follow_stops s e es _ refl m) (record { there = omega arith; before = followed_true s [] p refl; leads = ended; fault = refl; untrue = m })
    ]

-- and only there: the place, the store and the number of the first entry that can't be true are those handed back
pub stopped_there : (s : Store) (es : List Entry) (k : ℕ) {t : Store} {n : ℕ} → Shaped s → StopsAt s es k t n → follow_from s es ≡ record { reached = t; entry = k; number = n }
unfolding lifts_of
stopped_there s [] k p q = absurd (let h = q.there in omega arith)
stopped_there s (e ∷ es) zero {t} {n} p q =
    let same = stays q.leads in
    follow_stops s e es n (ap (λ (u : Store). entry_fault u e) same ∙ q.fault) q.untrue ∙ ap (λ (u : Store). none_true u n) same
stopped_there s (e ∷ es) (suc k) p q =
    let r = first_true s e (take k es) p q.before in
    let f = r.0 in
    let rest : StopsAt (after_entry s e) es k _ _ = record { there = omega (arith, q.there); before = r.1; leads = (leads_after s e (take k es) f.formed p.shafts q.leads).1; fault = q.fault; untrue = q.untrue } in
    follow_goes s e es (true_none s e f) ∙ ap one_more (stopped_there (after_entry s e) es k (after_shaped s e p f) rest)

-- A log on an accepted store, whole.
module _ (s : Store) (log : List ℕ) (p : Accepted s) where
  pub accepted_true : (follow s log).number ≡ 0 → TrueLog s log
  accepted_true f =
      elim (ℕ_discrete (length log % 3) 0) [
        | yes z ↦ record { whole = z; entries = followed_true s (entries_of log) (accepted_shaped s p) (rw (follow_entries s log p z) at f) }
        | no n ↦ absurd (let z : ◌≡◌ {A = ℕ} 19 0 = rw (follow_wrong s log p n) at f in omega arith)
      ]

  pub true_accepted : TrueLog s log → (follow s log).number ≡ 0
  true_accepted q = rw (follow_entries s log p q.whole) (true_followed s (entries_of log) (accepted_shaped s p) q.entries)

  pub accepted_count : (follow s log).number ≡ 0 → (follow s log).entry ≡ length log / 3
  accepted_count f =
      let e = follow_entries s log p (accepted_true f).whole in
      ap (λ (o : Following). o.entry) e ∙ all_counted s (entries_of log) (rw e at f) ∙ length_entries log

  -- a log of a right length that is not accepted, and the other way
  pub refused_stops : length log % 3 ≡ 0 → let o = follow s log in (o.number ≡ 0 → ⊥) → StopsAt s (entries_of log) o.entry o.reached o.number
  refused_stops z n = let f = follow_entries s log p z in rw f (stops_at s (entries_of log) (accepted_shaped s p) (rw f at n))

  pub stops_refused : length log % 3 ≡ 0 → (k : ℕ) {t : Store} {n : ℕ} → StopsAt s (entries_of log) k t n → follow s log ≡ record { reached = t; entry = k; number = n }
  stops_refused z k q = follow_entries s log p z ∙ stopped_there s (entries_of log) k (accepted_shaped s p) q

  -- whatever the log, the lifts before the entry handed back lead to the store handed back
  pub follow_leads : let o = follow s log in Leads s (lifts_of (take o.entry (entries_of log))) o.reached
  unfolding lifts_of
  follow_leads =
      elim (ℕ_discrete (length log % 3) 0) [
        | yes z ↦ rw (follow_entries s log p z) (followed_leads s (entries_of log) (accepted_shaped s p))
        | no n ↦ rw (follow_wrong s log p n) ended
      ]
