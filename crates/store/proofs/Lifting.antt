-- How the functions that lift answer: the store they build is the definition's, and each answer has its number.
use mathlib.Core.Bool.{true, false}
use mathlib.Core.List.{List}
use mathlib.Core.Path.{◌≡◌, refl, sym, ap, ◌∙◌}
use Prim.Native.Nat.{ℕ, zero, suc, ◌+◌, ◌-◌, ◌*◌}
use native.Mathlib.Omega.{arith}
use lib.ListN.{get_or}
use Rattle.std.specs.Prelude.{Result, Ok, Err}
use Rattle.marks.proofs.Faulted.{first_skips, first_stays}
use Rattle.lifts.specs.declared.Carried.{Carried}
use Rattle.lifts.specs.declared.Refusal.{Refusal}
use Rattle.lifts.specs.Lifting.{refusal_by, heights_after, slots_after}
use Rattle.lifts.specs.Numbers.{refusal_number}
use Rattle.lifts.specs.Carried.{CanCarry}
use Rattle.lifts.proofs.Moving.{shown_place}
use Rattle.lifts.proofs.Numbered.{only_error, only_refusal, refusal_one}
use Rattle.depths.proofs.SlotThere.{slot_range}
use Rattle.store.specs.declared.Store.{Store}
use Rattle.store.specs.declared.Fault.{Fault}
use Rattle.store.specs.declared.LiftFault.{LiftFault}
use Rattle.store.specs.Slots.{depth, height, slot, top_of, has_slot, content_of}
use Rattle.store.specs.Accept.{store_fault}
use Rattle.store.specs.Lifts.{Allowed, lift_refusal, lifted, lift_number, when_none, after_lift}
use Rattle.store.specs.Numbers.{fault_number}
use Rattle.store.specs.Promises.{Told, Tells, TriedIs, LiftIs}
use Rattle.store.specs.Sound.{Shaped}
use Rattle.store.proofs.Checks.{fault_one}
use Rattle.store.proofs.Numbered.{only_answer}
use Rattle.store.proofs.Refusals.{none_allowed}
use Rattle.store.proofs.Views.{lift_moves}

module _ (s : Store) (x y : ℕ) where
  -- no such slot
  pub content_none : has_slot s x y ≡ false → 0 ≡ content_of s x y
  unfolding content_of
  content_none e = rw e

  pub content_at : has_slot s x y ≡ true → get_or s.slots (16 * x + (y - 1)) 0 ≡ content_of s x y
  unfolding content_of
  content_at e = rw e (sym (shown_place s.slots x y (slot_range s.m s.depths x y e).1.0))

-- a lift judged by the depth and the heights of a store
pub judged_in : (s : Store) (a b : ℕ) {d left entered : ℕ} → d ≡ depth s b → left ≡ height s a → entered ≡ height s b → refusal_by s.m d a b left entered ≡ lift_refusal s a b
unfolding lift_refusal
judged_in s a b e f g = rw (e, f, g)

-- an allowed lift of a shaped store can be made in place
pub can_carry : (s : Store) (a b : ℕ) → Shaped s → Allowed s a b → CanCarry s.heights a b
can_carry s a b p q = record {
  left_below = omega (arith, q.left_below, p.shafts);
  entered_below = omega (arith, q.entered_below, p.shafts);
  taken = q.taken;
  taken_row = omega (arith, p.heights a, p.rows a);
  room = omega (arith, q.room, p.rows b);
}

-- heights and slots that a lift has made are those of the store after it
pub carried_store : (s : Store) (a b : ℕ) {heights slots : List ℕ} → heights ≡ heights_after s.heights a b → slots ≡ slots_after s.heights s.slots a b
    → ◌≡◌ {A = Store} (record { m = s.m; depths = s.depths; heights = heights; slots = slots }) (lifted s a b)
unfolding lifted
carried_store s a b e f = λ i. record { m = s.m; depths = s.depths; heights = e i; slots = f i }

pub when_some : (k : ℕ) (t s : Store) → (k ≡ 0 → ⊥) → s ≡ when_none k t s
when_some zero t s n = absurd (n refl)
when_some (suc k) t s n = refl

module _ (s : Store) (a b : ℕ) where
  -- what a refused lift tells, whatever is handed back, and what one that was done tells
  told_nothing : (k : ℕ) (t : Store) (c : Carried) → (k ≡ 0 → ⊥) → (c.cassette ≡ 0) × (c.row.0 ≡ 0) → Tells k s t a b c
  told_nothing k t c n e = record { refused = λ _. e; done = λ z. absurd (n z) }

  told_done : (c : Carried) → Shaped s → Allowed s a b → c.cassette ≡ top_of s a → c.row.0 ≡ suc (height s b) → Told s (lifted s a b) a b c.cassette c.row.0
  told_done c p q e f =
      let v = lift_moves s a b p q in
      record { left = sym e; entered = ap (slot (lifted s a b) b) f ∙ v.placed ∙ sym e; top = f ∙ sym v.higher }

  -- a lift tried in place
  pub tried_refused : (r : Refusal) → refusal_number r ≡ lift_refusal s a b → TriedIs s a b s (Err r)
  tried_refused r e = record {
    answer = only_error refusal_one (only_refusal e);
    store = when_some (lift_refusal s a b) (lifted s a b) s λ h. refusal_one r (e ∙ h);
  }

  pub tried_made : (t : Store) (c : Carried) → Shaped s → lift_refusal s a b ≡ 0 → t ≡ lifted s a b → c.cassette ≡ top_of s a
      → c.row.0 ≡ suc (height s b) → TriedIs s a b t (Ok c)
  tried_made t c p z g e f = record {
    answer = (z, (rw g (told_done c p (none_allowed s a b z) e f), refusal_one));
    store = g ∙ ap (λ (k : ℕ). when_none k (lifted s a b) s) (sym z);
  }

  module _ {t : Store} {r : Result Carried Refusal} (q : TriedIs s a b t r) where
    pub tried_stays : (lift_refusal s a b ≡ 0 → ⊥) → t ≡ s
    tried_stays n = q.store ∙ sym (when_some (lift_refusal s a b) (lifted s a b) s n)

    pub tried_lifts : lift_refusal s a b ≡ 0 → t ≡ lifted s a b
    tried_lifts z = q.store ∙ ap (λ (k : ℕ). when_none k (lifted s a b) s) z

  -- a single lift: the store's own fault, or what was tried
  pub store_refused : (f : Fault) (c : Carried) → fault_number f ≡ store_fault s → (c.cassette ≡ 0) × (c.row.0 ≡ 0)
      → LiftIs s a b (record { store = s; carried = c; answer = Err (LiftFault.StoreRefused f) })
  unfolding after_lift lift_number
  store_refused f c e z =
      let n : store_fault s ≡ 0 → ⊥ = λ h. fault_one f (e ∙ h) in
      let g : lift_number s a b ≡ fault_number f = first_stays (store_fault s) (lift_refusal s a b) n ∙ sym e in
      let o : lift_number s a b ≡ 0 → ⊥ = λ h. fault_one f (sym g ∙ h) in
      record {
        answer = only_answer (sym g);
        store = when_some (lift_number s a b) (lifted s a b) s o;
        tells = told_nothing (lift_number s a b) s c o z;
      }

  module _ (t : Store) (e : store_fault s ≡ 0) where
    by_lift : lift_number s a b ≡ lift_refusal s a b
    unfolding lift_number
    by_lift = first_skips (store_fault s) (lift_refusal s a b) e

    pub lift_made : (c : Carried) → TriedIs s a b t (Ok c) → LiftIs s a b (record { store = t; carried = c; answer = Ok tt })
    unfolding after_lift
    lift_made c q = record {
      answer = only_answer (sym (by_lift ∙ q.answer.0));
      store = q.store ∙ ap (λ (k : ℕ). when_none k (lifted s a b) s) (sym by_lift);
      tells = record { refused = λ n. absurd (n (by_lift ∙ q.answer.0)); done = λ _. q.answer.1.0 };
    }

    pub lift_refused : (r : Refusal) (c : Carried) → TriedIs s a b t (Err r) → (c.cassette ≡ 0) × (c.row.0 ≡ 0)
        → LiftIs s a b (record { store = t; carried = c; answer = Err (LiftFault.LiftRefused r) })
    unfolding after_lift
    lift_refused r c q z = record {
      answer = only_answer (q.answer.has ∙ sym by_lift);
      store = q.store ∙ ap (λ (k : ℕ). when_none k (lifted s a b) s) (sym by_lift);
      tells = told_nothing (lift_number s a b) t c (λ h. refusal_one r (q.answer.has ∙ sym by_lift ∙ h)) z;
    }
