-- What the C calls on two images promise: the library's own promises, with stores as images (document 01, "The image": "The C calls take stores as images,
-- read start first, and give faults of reading before any other").
use Rattle.std.specs.Prelude.{List, Bool, Result, ◌≡◌, ℕ}
use Rattle.std.specs.Result.{result_unwrap_or}
use Rattle.store.specs.declared.Store.{Store}
use Rattle.pairs.specs.declared.PairFault.{PairFault}
use Rattle.reachable.specs.Numbers.{reach_number}
use Rattle.reachable.specs.Promises.{ReachSays}
use Rattle.plans.specs.declared.PlanFault.{PlanFault}
use Rattle.plans.specs.Numbers.{plan_number}
use Rattle.plans.specs.Promises.{PlanIs}
use Rattle.calls.specs.Shared.{answer_of, store_in, read_faults}

-- The number of the yes or no on two stores.
pub record ReachGives (s t : Store) (r : ℕ) : Type 0 where
  pub answer : Result Bool PairFault
  pub says : ReachSays s t answer
  pub number : r ≡ reach_number answer

pub record ReachCallIs (a b : List ℕ) (r : ℕ) : Type 0 where
  pub unread : (read_faults a b ≡ 0 → ⊥) → r ≡ read_faults a b
  pub answered : read_faults a b ≡ 0 → ReachGives (store_in a) (store_in b) r

-- The count, 0 where there is no list, and the number of the list maker on two stores, and what it leaves in the lent bytes: demand 3.
pub record PlanGives (s t : Store) (came out : List ℕ) (r : ℕ) : Type 0 where
  pub planned : Result ℕ PlanFault
  pub is : PlanIs s t came out planned
  pub number : r ≡ answer_of (result_unwrap_or planned 0) (plan_number planned)

pub record PlanCallIs (a b came : List ℕ) (r : ℕ) (out : List ℕ) : Type 0 where
  pub unread : (read_faults a b ≡ 0 → ⊥) → (r ≡ read_faults a b) × (out ≡ came)
  pub answered : read_faults a b ≡ 0 → PlanGives (store_in a) (store_in b) came out r
