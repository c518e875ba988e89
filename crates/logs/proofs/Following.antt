-- How a log is followed, one entry after the other; and what its lifts lead to.
use mathlib.Core.List.{List, [], ◌∷◌}
use mathlib.Core.Path.{◌≡◌, refl, sym, subst}
use Prim.Native.Nat.{ℕ, zero, suc, ◌%◌}
use borrow.Author.Tests.{eq-eqb, ne_eqb}
use native.Mathlib.Decide.{ℕ_discrete}
use native.Mathlib.Omega.{arith}
use lib.ListN.{length, take}
use Rattle.store.specs.declared.Store.{Store}
use Rattle.store.specs.Accept.{store_fault, Accepted}
use Rattle.store.specs.Lists.{Leads, ended}
use Rattle.store.specs.Sound.{Shaped}
use Rattle.store.proofs.Played.{lift_then}
use Rattle.store.proofs.Views.{lifted_shaped}
use Rattle.entries.specs.declared.Entry.{Entry}
use Rattle.entries.specs.Entries.{entry_fault, after_entry}
use Rattle.entries.proofs.Comparing.{True, none_true_lem, after_lift_lem, after_sighting}
use Rattle.logs.specs.Following.{one_more, none_true, entries_of, follow_from, follow}
use Rattle.logs.specs.Whole.{lifts_of}

-- an entry that can be true is followed, and counted
pub follow_goes : (s : Store) (e : Entry) (es : List Entry) → entry_fault s e ≡ 0 → follow_from s (e ∷ es) ≡ one_more (follow_from (after_entry s e) es)
unfolding follow_from
follow_goes s e es z = rw (z, follow_from)

-- one that can't stops it, with its number
pub follow_stops : (s : Store) (e : Entry) (es : List Entry) (k : ℕ) → entry_fault s e ≡ k → (k ≡ 0 → ⊥) → follow_from s (e ∷ es) ≡ none_true s k
unfolding follow_from
follow_stops s e es zero f n = absurd (n refl)
follow_stops s e es (suc k) f n = rw (f, follow_from)

-- the store's own fault comes first, then a wrong length
pub follow_refused : (s : Store) (log : List ℕ) (k : ℕ) → store_fault s ≡ k → (k ≡ 0 → ⊥) → follow s log ≡ none_true s k
unfolding follow
follow_refused s log zero f n = absurd (n refl)
follow_refused s log (suc k) f n = rw (f, follow)

module _ (s : Store) (log : List ℕ) (p : Accepted s) where
  pub follow_wrong : (length log % 3 ≡ 0 → ⊥) → follow s log ≡ none_true s 19
  unfolding follow
  follow_wrong n = rw (p, ne_eqb (length log % 3) 0 n, follow)

  pub follow_entries : length log % 3 ≡ 0 → follow s log ≡ follow_from s (entries_of log)
  unfolding follow
  follow_entries z = rw (p, eq-eqb (length log % 3) 0 z, follow)

-- what a followed entry keeps
module _ (s : Store) (e : Entry) where
  pub after_shaped : Shaped s → True s e → Shaped (after_entry s e)
  after_shaped p q =
      elim (ℕ_discrete e.kind 0) [
        | yes z ↦ subst Shaped (sym (after_lift_lem s e z)) (lifted_shaped s e.shaft.0 e.second.0 p (q.allowed z))
        | no n ↦ subst Shaped (sym (after_sighting s e n)) p
      ]

  -- its lift, if it is one, comes before the lifts of the others
  pub after_leads : (es : List Entry) {t : Store} → Shaped s → True s e → Leads (after_entry s e) (lifts_of es) t → Leads s (lifts_of (e ∷ es)) t
  unfolding lifts_of
  after_leads es {t} p q l =
      elim (ℕ_discrete e.kind 0) [
        | yes z ↦ rw (eq-eqb e.kind 0 z)
            (lift_then s t (record { left = e.shaft.0; entered = e.second.0 }) (lifts_of es) (omega (arith, q.formed.second_below, p.shafts)) (q.allowed z)
            (rw (after_lift_lem s e z) at l))
        | no n ↦ rw (ne_eqb e.kind 0 n) (rw (after_sighting s e n) at l)
      ]

-- the lifts of the entries before the one that it stopped at lead to the store reached
pub followed_leads : (s : Store) (es : List Entry) → Shaped s → Leads s (lifts_of (take (follow_from s es).entry es)) (follow_from s es).reached
unfolding follow_from lifts_of
followed_leads s [] p = ended
followed_leads s (e ∷ es) p =
    elim (ℕ_discrete (entry_fault s e) 0) [
      | yes z ↦ rw (follow_goes s e es z) (after_leads s e (take (follow_from (after_entry s e) es).entry es) p (none_true_lem s e z) (followed_leads (after_entry s e) es (after_shaped s e p (none_true_lem s e z))))
      | no n ↦ rw (follow_stops s e es _ refl n) ended
    ]
