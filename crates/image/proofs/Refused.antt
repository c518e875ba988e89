-- When writing an image is refused: by the store's number, by 1, 18, 10, or not at all.
use borrow.Author.Tests.{le-ltb, lt-ltb, ltb-false}
use mathlib.Core.Bool.{true, false}
use mathlib.Core.List.{List}
use mathlib.Core.Path.{◌≡◌, refl, sym, ◌∙◌}
use Prim.Native.Nat.{ℕ, zero, suc, ◌≤◌, ◌<◌}
use lib.ListN.{length}
use Rattle.marks.proofs.Faulted.{first_none, first_stays, given_none, not_given}
use Rattle.store.specs.declared.Store.{Store}
use Rattle.store.specs.declared.Fault.{Fault}
use Rattle.store.specs.Accept.{store_fault, Accepted}
use Rattle.store.specs.Numbers.{fault_number}
use Rattle.store.proofs.Checks.{fault_one}
use Rattle.image.specs.Image.{last_form, form_fault, length_in, holds}
use Rattle.image.specs.Writing.{hold_fault, write_refusal, bytes_after, count_after}

module _ (f : ℕ) (s : Store) (out : List ℕ) where
  pub store_refused : (e : Fault) → store_fault s ≡ fault_number e → write_refusal f s (length out) ≡ fault_number e
  unfolding write_refusal
  store_refused e q = first_stays (store_fault s) _ (λ z. fault_one e (sym q ∙ z)) ∙ q

  module _ (e : Accepted s) where
    pub no_form : last_form < f → write_refusal f s (length out) ≡ 1
    unfolding write_refusal
    no_form h = simp (e, lt-ltb last_form f h)

    module _ (known : f ≤ last_form) where
      pub not_held : holds f s ≡ false → write_refusal f s (length out) ≡ 18
      unfolding write_refusal
      not_held h = simp (e, le-ltb last_form f known, h)

      module _ (held : holds f s ≡ true) where
        pub no_room : length out < length_in f s → write_refusal f s (length out) ≡ 10
        unfolding write_refusal
        no_room h = simp (e, le-ltb last_form f known, held, lt-ltb (length out) (length_in f s) h)

        pub not_refused : length_in f s ≤ length out → write_refusal f s (length out) ≡ 0
        unfolding write_refusal
        not_refused h = simp (e, le-ltb last_form f known, held, le-ltb (length out) (length_in f s) h)

-- What it is that nothing refuses.
pub record Writable (f : ℕ) (s : Store) (out : List ℕ) : Type 0 where
  pub sound : Accepted s
  pub known : f ≤ last_form
  pub held : holds f s ≡ true
  pub room : length_in f s ≤ length out

pub none_refuses : (f : ℕ) (s : Store) (out : List ℕ) → write_refusal f s (length out) ≡ 0 → Writable f s out
unfolding write_refusal
none_refuses f s out e =
    let a = first_none (store_fault s) _ e in
    let b = first_none (form_fault f) _ a.1 in
    let c = first_none (hold_fault f s) _ b.1 in
    record {
      sound = a.0;
      known = ltb-false last_form f (given_none _ 0 b.0);
      held = not_given (holds f s) 17 c.0;
      room = ltb-false (length out) (length_in f s) (given_none _ 9 c.1);
    }

-- a refusal counts no byte and writes none
pub none_written : (k f : ℕ) (s : Store) (out : List ℕ) → (k ≡ 0 → ⊥) → (0 ≡ count_after k f s) × (out ≡ bytes_after k f s out)
none_written zero f s out n = absurd (n refl)
none_written (suc k) f s out n = (refl, refl)
