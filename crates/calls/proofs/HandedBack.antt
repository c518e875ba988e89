-- A store that lifts lead to, handed back in the form of the image given: it is accepted, that form holds it, and its image there is as long.
use borrow.Author.Tests.{ltb-false, lt-ltb, le-ltb}
use mathlib.Core.Bool.{true}
use mathlib.Core.List.{List, ◌++◌}
use mathlib.Core.Path.{◌≡◌, sym, ap, ◌∙◌}
use Prim.Native.Nat.{ℕ, ◌+◌, ◌≤◌, ◌<◌}
use native.Mathlib.Decide.{ℕ_discrete}
use native.Mathlib.Omega.{arith}
use lib.Dec.{ltb}
use lib.ListN.{length, get_or, drop}
use Rattle.store.specs.declared.Store.{Store}
use Rattle.store.specs.Accept.{Accepted}
use Rattle.store.specs.Lists.{Leads}
use Rattle.store.proofs.Acceptance.{accepted_shaped}
use Rattle.marks.specs.Cassettes.{given, first}
use Rattle.marks.proofs.Faulted.{first_none, first_stays, given_none}
use Rattle.moves.specs.Written.{written}
use Rattle.reach.proofs.Lasting.{leads_accepted}
use Rattle.std.specs.Prelude.{Result, Ok, Err}
use Rattle.image.specs.declared.Read.{Read}
use Rattle.image.specs.declared.ReadFault.{ReadFault}
use Rattle.image.specs.declared.WriteFault.{WriteFault}
use Rattle.image.specs.Numbers.{read_number}
use Rattle.image.specs.Image.{last_form, length_in, image_in, holds, form_in}
use Rattle.image.specs.Writing.{bytes_after, WriteIs}
use Rattle.image.proofs.Lengths.{length_written}
use Rattle.image.proofs.Refused.{not_refused}
use Rattle.image.proofs.RoundTrip.{own_length}
use Rattle.marks.specs.Taking.{result_number}
use Rattle.calls.specs.declared.LentFault.{LentFault}
use Rattle.image.proofs.Answered.{read_one}
use Rattle.calls.specs.HandedBack.{back_fault, lent_number, LentIs, HandsBack}
use Rattle.calls.specs.Shared.{answer_of, RefusedCall, store_in, read_fault, OneIs}
use Rattle.calls.proofs.Kept.{leads_length, leads_held}
use Rattle.calls.proofs.Readings.{own_image, unread}

-- an image read, and 10 where less is lent than it has
module _ {a : List ℕ} {o : Read} (p : OneIs a o) (room : ℕ) where
  pub lent_refused : {f : ReadFault} → o.answer ≡ Err f → LentIs a room (record { answer = Err (LentFault.Unread f); store = o.store })
  lent_refused {f} e =
      let n : read_number o.answer ≡ 0 → ⊥ = unread e in
      record {
        number = ap read_number (sym e) ∙ p.number ∙ sym (first_stays (read_fault a) (given (ltb room (length a)) 10) (λ z. n (p.number ∙ z)));
        store = p.store;
        accepted = λ z. absurd (read_one f z);
      }

  module _ (z : read_number o.answer ≡ 0) where
    -- what is left to refuse it: 10
    ten_left : back_fault a room ≡ given (ltb room (length a)) 10
    ten_left = ap (λ (k : ℕ). first k (given (ltb room (length a)) 10)) (sym p.number ∙ z)

    pub lent_little : room < length a → LentIs a room (record { answer = Err LentFault.NoRoom; store = o.store })
    lent_little h = record {
      number = sym (ten_left ∙ ap (λ b. given b 10) (lt-ltb room (length a) h));
      store = p.store;
      accepted = λ e. absurd (omega arith);
    }

    pub lent_enough : length a ≤ room → LentIs a room (record { answer = Ok tt; store = o.store })
    lent_enough h = record {
      number = sym (ten_left ∙ ap (λ b. given b 10) (le-ltb room (length a) h));
      store = p.store;
      accepted = λ _. p.accepted z;
    }

-- an accepted store, written in a form that holds it into enough bytes, stands in the first
image_written : (f : ℕ) (s : Store) (came out : List ℕ) (w : Result ℕ WriteFault) → Accepted s → f ≤ last_form → holds f s ≡ true → length_in f s ≤ length came → WriteIs f s came out w
    → out ≡ written came 0 (image_in f s)
unfolding written
image_written f s came out w e known held h p =
    let z : length_in f s ≡ 0 + length (image_in f s) = omega (arith, length_written f s) in
    p.bytes ∙ ap (λ (k : ℕ). bytes_after k f s came) (not_refused f s came e known held h) ∙ ap (λ (k : ℕ). image_in f s ++ drop k came) z

-- the image a stands for a store, and lifts lead from it to t
module _ (a : List ℕ) (small : (i : ℕ) → get_or a i 0 < 256) {t : Store} {bs : List ℕ} (l : Leads (store_in a) bs t) where
  -- "always as long as the one given"
  back_length : read_fault a ≡ 0 → length_in (form_in a) t ≡ length a
  back_length e =
      let i = own_image a small e in
      leads_length (accepted_shaped (store_in a) i.sound) l (form_in a) ∙ own_length a (store_in a) i

  pub as_long : read_fault a ≡ 0 → length (image_in (form_in a) t) ≡ length a
  as_long e = length_written (form_in a) t ∙ back_length e

  pub back_written : {came out : List ℕ} {w : Result ℕ WriteFault} {f count number r : ℕ} → back_fault a (length came) ≡ 0 → f ≡ form_in a → WriteIs f t came out w → r ≡ answer_of count number
      → HandsBack a came t count number r out
  back_written {came} {out} {w} z form q e =
      let p = first_none (read_fault a) (given (ltb (length came) (length a)) 10) z in
      let h : length a ≤ length came = ltb-false (length came) (length a) (given_none (ltb (length came) (length a)) 9 p.1) in
      let i = own_image a small p.0 in
      let j : length_in (form_in a) t ≤ length came = omega (arith, back_length p.0) in
      record {
        refused = λ n. absurd (n z);
        done = λ _. (e, image_written (form_in a) t came out w (leads_accepted i.sound l) i.known (leads_held (form_in a) (accepted_shaped (store_in a) i.sound) l i.held) j (rw form at q));
      }

-- the number of the answer of such a call's image
abbrev pub lent_answer_number : Result Unit LentFault → ℕ
lent_answer_number = result_number lent_number

-- none of its refusals has the number 0
pub lent_some : (f : LentFault) → lent_number f ≡ 0 → ⊥
lent_some (LentFault.Unread f) e = read_one f e
lent_some LentFault.NoRoom e = absurd (omega arith)

-- a refused call
pub back_refused : {a came out : List ℕ} {k r : ℕ} (t : Store) (count number : ℕ) → RefusedCall k came out r → k ≡ back_fault a (length came) → (k ≡ 0 → ⊥) → HandsBack a came t count number r out
back_refused t count number q e n = record { refused = λ _. (q.number ∙ e, q.bytes); done = λ z. absurd (n (e ∙ z)) }

-- one answer and the same bytes: two that keep the promise are equal
pub back_exact : (a came : List ℕ) (t : Store) (count number : ℕ) {r q : ℕ} {x y : List ℕ} → HandsBack a came t count number r x → HandsBack a came t count number q y → (r ≡ q) × (x ≡ y)
back_exact a came t count number p q =
    elim (ℕ_discrete (back_fault a (length came)) 0) [
      | yes z ↦ ((p.done z).0 ∙ sym (q.done z).0, (p.done z).1 ∙ sym (q.done z).1)
      | no n ↦ ((p.refused n).0 ∙ sym (q.refused n).0, (p.refused n).1 ∙ sym (q.refused n).1)
    ]
