-- Which number says why an entry can't be true: each case, and what is so where it is 0.
use borrow.Author.Tests.{eqb-true, eqb-false, lt-ltb, le-ltb, eq-eqb, ne_eqb, not-false}
use mathlib.Core.Bool.{Bool, true, false, not, or-false}
use mathlib.Core.Path.{◌≡◌, sym, ap, ◌∙◌}
use Prim.Native.Nat.{ℕ, ◌≤◌, ◌<◌}
use native.Mathlib.Decide.{dec_lt, ℕ_discrete}
use native.Mathlib.Omega.{arith}
use lib.Dec.{leb, eqb}
use Rattle.stacks.proofs.Deciding.{true_false}
use Rattle.marks.specs.Cassettes.{given}
use Rattle.marks.proofs.Faulted.{first_none, first_stays, first_either, given_either, given_none, not_given}
use Rattle.lifts.specs.Lifting.{refusal_by}
use Rattle.store.specs.declared.Store.{Store}
use Rattle.store.specs.Lifts.{Allowed, lifted}
use Rattle.store.proofs.Refusals.{none_allowed, allowed_none}
use Rattle.entries.specs.declared.Entry.{Entry}
use Rattle.entries.specs.Entries.{malformed, Formed, number_due, entry_fault, after_entry}
use Rattle.entries.specs.Promises.{lift_fault}

module _ (m : ℕ) (e : Entry) where
  pub kind_above : 1 < e.kind → true ≡ malformed m e
  unfolding malformed
  kind_above h = simp (lt-ltb 1 e.kind h)

  module _ (k : e.kind ≤ 1) where
    pub shaft_past : m ≤ e.shaft.0 → true ≡ malformed m e
    unfolding malformed
    shaft_past h = simp (le-ltb 1 e.kind k, le-ltb e.shaft.0 m h)

    module _ (i : e.shaft.0 < m) where
      pub second_past : m ≤ e.second.0 → true ≡ malformed m e
      unfolding malformed
      second_past h = simp (le-ltb 1 e.kind k, lt-ltb e.shaft.0 m i, le-ltb e.second.0 m h)

      module _ (j : e.second.0 < m) where
        pub sighting_second : e.kind ≡ 1 → not (eqb e.second.0 0) ≡ malformed m e
        unfolding malformed
        sighting_second h = simp (lt-ltb e.shaft.0 m i, lt-ltb e.second.0 m j, or-false, h)

        pub lift_twice : (e.kind ≡ 1 → ⊥) → eqb e.shaft.0 e.second.0 ≡ malformed m e
        unfolding malformed
        lift_twice h = let z : e.kind ≡ 0 = omega arith in simp (lt-ltb e.shaft.0 m i, lt-ltb e.second.0 m j, z)

  -- an entry that 19 does not apply to
  pub formed : malformed m e ≡ false → Formed m e
  formed f =
      let k : e.kind ≤ 1 = not_past 1 e.kind (λ h. kind_above h) in
      let i : e.shaft.0 < m = below e.shaft.0 (λ h. shaft_past k h) in
      let j : e.second.0 < m = below e.second.0 (λ h. second_past k i h) in
      record {
        kinds = k;
        below = i;
        second_below = j;
        sighting = λ h. eqb-true e.second.0 0 (not-false _ (sighting_second k i j h ∙ f));
        lift = λ h. eqb-false e.shaft.0 e.second.0 (lift_twice k i j (λ o. omega arith) ∙ f);
      }
    where
      not_past : (n v : ℕ) → (n < v → true ≡ malformed m e) → v ≤ n
      not_past n v g = elim (dec_lt n v) [ yes h ↦ absurd (true_false (g h ∙ f)) | no o ↦ omega arith ]

      below : (v : ℕ) → (m ≤ v → true ≡ malformed m e) → v < m
      below v g = elim (dec_lt v m) [ yes h ↦ h | no o ↦ absurd (true_false (g (omega arith) ∙ f)) ]

  pub not_malformed : Formed m e → malformed m e ≡ false
  not_malformed p =
      elim (ℕ_discrete e.kind 1) [
        | yes h ↦ sym (sighting_second p.kinds p.below p.second_below h) ∙ ap not (eq-eqb e.second.0 0 (p.sighting h))
        | no n ↦ sym (lift_twice p.kinds p.below p.second_below n) ∙ ne_eqb e.shaft.0 e.second.0 (p.lift (omega (arith, p.kinds)))
      ]

  -- what is 11 of a lift is 19 of an entry
  pub never_eleven : (d left entered : ℕ) → Formed m e → e.kind ≡ 0 → refusal_by m d e.shaft.0 e.second.0 left entered ≡ 11 → ⊥
  unfolding refusal_by
  never_eleven d left entered p z h =
      let g = simp (lt-ltb e.shaft.0 m p.below, lt-ltb e.second.0 m p.second_below, ne_eqb e.shaft.0 e.second.0 (p.lift z)) at h in
      let other : (t : Bool) (k : ℕ) → (k ≡ 11 → ⊥) → given t k ≡ 11 → ⊥ = λ t k n. given_either (λ n. n ≡ 11 → ⊥) t k (λ z. omega arith) n in
      first_either (λ n. n ≡ 11 → ⊥) (given (eqb left 0) 13) (given (leb d entered) 14) (other (eqb left 0) 13 (λ z. omega arith)) (other (leb d entered) 14 (λ z. omega arith)) g

module _ (s : Store) (e : Entry) where
  pub fault_malformed : malformed s.m e ≡ true → entry_fault s e ≡ 19
  unfolding entry_fault
  fault_malformed f = simp f

  module _ (f : malformed s.m e ≡ false) where
    pub fault_lift : (lift_fault s e ≡ 0 → ⊥) → entry_fault s e ≡ lift_fault s e
    unfolding entry_fault
    fault_lift n = simp f (first_stays (lift_fault s e) _ n)

    module _ (z : lift_fault s e ≡ 0) where
      pub fault_number_lem : (e.number ≡ number_due s e → ⊥) → entry_fault s e ≡ 20
      unfolding entry_fault
      fault_number_lem n = simp (f, z, ne_eqb e.number (number_due s e) n)

      pub fault_none : e.number ≡ number_due s e → entry_fault s e ≡ 0
      unfolding entry_fault
      fault_none n = simp (f, z, eq-eqb e.number (number_due s e) n)

  -- An entry that can be true, in words.
  pub record True : Type 0 where
    pub formed : Formed s.m e
    pub allowed : e.kind ≡ 0 → Allowed s e.shaft.0 e.second.0
    pub number : e.number ≡ number_due s e

  pub none_true_lem : entry_fault s e ≡ 0 → True
  unfolding entry_fault
  none_true_lem h =
      let p = first_none (given (malformed s.m e) 19) _ h in
      let q = first_none (lift_fault s e) _ p.1 in
      record {
        formed = formed s.m e (given_none _ 18 p.0);
        allowed = λ z. none_allowed s e.shaft.0 e.second.0 (simp (z) at q.0);
        number = eqb-true _ _ (not_given _ 19 q.1);
      }

  pub true_none : True → entry_fault s e ≡ 0
  true_none p = fault_none (not_malformed s.m e p.formed) z p.number
    where
      z : lift_fault s e ≡ 0
      z = elim (ℕ_discrete e.kind 0) [
        | yes h ↦ simp (h, allowed_none s e.shaft.0 e.second.0 (p.allowed h))
        | no n ↦ simp (ne_eqb e.kind 0 n)
      ]

  -- the store after it
  pub after_lift_lem : e.kind ≡ 0 → after_entry s e ≡ lifted s e.shaft.0 e.second.0
  unfolding after_entry
  after_lift_lem z = simp (z)

  pub after_sighting : (e.kind ≡ 0 → ⊥) → after_entry s e ≡ s
  unfolding after_entry
  after_sighting n = simp (ne_eqb e.kind 0 n)
