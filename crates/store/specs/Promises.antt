-- What the functions promise, by the definitions.
use Rattle.std.specs.Prelude.{List, ◌≡◌, ℕ, Result}
use Rattle.marks.specs.Marking.{marks_of}
use Rattle.lifts.specs.declared.Carried.{Carried}
use Rattle.lifts.specs.declared.Refusal.{Refusal}
use Rattle.lifts.specs.Numbers.{Only, ResultIs, refusal_number}
use Rattle.store.specs.declared.Fault.{Fault}
use Rattle.store.specs.declared.Lifted.{Lifted}
use Rattle.store.specs.declared.Store.{Store}
use Rattle.store.specs.Lifts.{lift_refusal, lifted, lift_number, when_none, after_lift}
use Rattle.store.specs.Numbers.{fault_number, answer_number}
use Rattle.store.specs.Slots.{height, slot, top_of}

-- A check that looked for the fault f among the cassettes l gave their marks where there is none, and else the fault with its number.
abbrev pub CheckIs : ℕ → List ℕ → Result (List ℕ) Fault → Type 0
CheckIs f l r = ResultIs fault_number f (λ marks. marks ≡ marks_of l) r

-- "A single lift shall also tell the cassette it moved and the row it landed in" (request 2/13), by the slots of the store s that came and of the
-- store t handed back: c stood on top of shaft a, and stands on top of shaft b, in row y.
pub record Told (s t : Store) (a b c y : ℕ) : Type 0 where
  pub left : top_of s a ≡ c
  pub entered : slot t b y ≡ c
  pub top : y ≡ height t b

-- "(0 and 0 if refused)": k is the number that refuses the lift
pub record Tells (k : ℕ) (s t : Store) (a b : ℕ) (r : Carried) : Type 0 where
  pub refused : (k ≡ 0 → ⊥) → (r.cassette ≡ 0) × (r.row.0 ≡ 0)
  pub done : k ≡ 0 → Told s t a b r.cassette r.row.0

-- A single lift gave the answer with its number, the store after it, and what it carried.
pub record LiftIs (s : Store) (a b : ℕ) (r : Lifted) : Type 0 where
  pub answer : Only answer_number (lift_number s a b) r.answer
  pub store : r.store ≡ after_lift s a b
  pub tells : Tells (lift_number s a b) s r.store a b r.carried

-- A lift tried in place: s is what came, t what it left.
pub record TriedIs (s : Store) (a b : ℕ) (t : Store) (r : Result Carried Refusal) : Type 0 where
  pub answer : ResultIs refusal_number (lift_refusal s a b) (λ c. Told s t a b c.cassette c.row.0) r
  pub store : t ≡ when_none (lift_refusal s a b) (lifted s a b) s
