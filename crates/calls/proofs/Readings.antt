-- What a call knows of an image that it read: its number, and the store that it stands for where that is 0.
use mathlib.Core.List.{List}
use Prim.Native.Nat.{ℕ, zero, suc, ◌<◌}
use lib.ListN.{get_or}
use Rattle.store.specs.declared.Store.{Store}
use Rattle.store.specs.Accept.{Accepted}
use Rattle.image.specs.Reading.{read_image}
use Rattle.image.proofs.Nexts.{accepted}
use Rattle.image.proofs.RoundTrip.{ImageOf, read_image_lem}
use Rattle.std.specs.Prelude.{Result, Ok, Err}
use Rattle.image.specs.declared.Read.{Read}
use Rattle.image.specs.declared.ReadFault.{ReadFault}
use Rattle.image.specs.Numbers.{read_number}
use Rattle.image.specs.Promises.{ReadIs}
use Rattle.image.proofs.Answered.{read_one}
use Rattle.calls.specs.declared.Both.{Both}
use Rattle.calls.specs.Shared.{store_in, read_fault, goal_after, OneIs, BothAre}
use mathlib.Core.Path.{◌≡◌, refl, sym, ap, ◌∙◌, subst}
use Rattle.marks.specs.Cassettes.{first}
use Rattle.marks.proofs.Faulted.{first_none, first_stays}

-- The image a is accepted, and stands for the store s.
pub record Stands (a : List ℕ) (s : Store) : Type 0 where
  pub is : read_image a ≡ accepted s

-- an accepted image is that of its store in the form that it names
pub own_image : (a : List ℕ) → ((i : ℕ) → get_or a i 0 < 256) → read_fault a ≡ 0 → ImageOf a (store_in a)
own_image a small e = read_image_lem a (store_in a) small (λ i. record { store = store_in a; number = e i })

-- a store that an accepted image stands for is accepted as a value
pub stood_accepted : (a : List ℕ) → ((i : ℕ) → get_or a i 0 < 256) → read_fault a ≡ 0 → Accepted (store_in a)
stood_accepted a small e = (own_image a small e).sound

pub one_read : (a : List ℕ) {r : Read} → ReadIs (read_image a) r → ((i : ℕ) → get_or a i 0 < 256) → OneIs a r
one_read a p small = record { number = p.answer.has; store = p.store; accepted = λ z. subst Accepted (sym p.store) (stood_accepted a small (sym p.answer.has ∙ z)) }

pub stands : {a : List ℕ} {r : Read} → OneIs a r → read_number r.answer ≡ 0 → Stands a r.store
stands p z = record { is = λ i. record { store = sym p.store i; number = (sym p.number ∙ z) i } }

-- an image is refused by a fault, or read
pub unread : {r : Result Unit ReadFault} {f : ReadFault} → r ≡ Err f → read_number r ≡ 0 → ⊥
unread {f = f} e z = read_one f (sym (ap read_number e) ∙ z)

goal_unread : (k : ℕ) (s t : Store) → (k ≡ 0 → ⊥) → goal_after k s t ≡ s
goal_unread zero s t n = absurd (n refl)
goal_unread (suc k) s t n = refl

-- a fault of the start's image comes first
pub start_refused : {a b : List ℕ} {r : Read} {f : ReadFault} → OneIs a r → r.answer ≡ Err f
    → BothAre a b (record { answer = Err f; start = r.store; goal = r.store })
start_refused {a} {b} {r} p e =
    let m : read_fault a ≡ 0 → ⊥ = λ z. unread e (p.number ∙ z) in
    record {
      number = ap read_number (sym e) ∙ p.number ∙ sym (first_stays (read_fault a) (read_fault b) m);
      start = p.store;
      goal = p.store ∙ sym (goal_unread (read_fault a) (store_in a) (store_in b) m);
    }

-- the start is read, and then the goal, or its fault
pub goal_told_lem : {a b : List ℕ} {r q : Read} → OneIs a r → read_number r.answer ≡ 0 → OneIs b q
    → BothAre a b (record { answer = q.answer; start = r.store; goal = q.store })
goal_told_lem {a} {b} p e q =
    let z : read_fault a ≡ 0 = sym p.number ∙ e in
    record {
      number = q.number ∙ sym (ap (λ (n : ℕ). first n (read_fault b)) z);
      start = p.store;
      goal = q.store ∙ sym (ap (λ (n : ℕ). goal_after n (store_in a) (store_in b)) z);
    }

-- both are read
pub both_read : {a b : List ℕ} {o : Both} → BothAre a b o → read_number o.answer ≡ 0 → (o.start ≡ store_in a) × (o.goal ≡ store_in b)
both_read {a} {b} p e =
    let z : read_fault a ≡ 0 = (first_none (read_fault a) (read_fault b) (sym p.number ∙ e)).0 in
    (p.start, p.goal ∙ ap (λ (n : ℕ). goal_after n (store_in a) (store_in b)) z)
