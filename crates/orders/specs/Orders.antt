-- What a row of orders receives (document 02, 1/13).
use Rattle.std.specs.Prelude.{ℕ, List, [], ◌∷◌, ◌≡◌, Result}
use Rattle.lifts.specs.Numbers.{Only}
use Rattle.store.specs.declared.Store.{Store}
use Rattle.store.specs.declared.Fault.{Fault}
use Rattle.store.specs.Accept.{store_fault, Accepted}
use Rattle.store.specs.Numbers.{verdict_number}
use Rattle.uncovering.specs.declared.Hidden.{Hidden}
use Rattle.uncovering.specs.Numbers.{uncovering_number, uncovering_lifts}
use Rattle.uncovering.specs.Promises.{UncoveringIs}
use Rattle.orders.specs.declared.Order.{Order}

-- An order came, and went out with its answer: the cassette named stays, and the number and the lifts are those of the right answer.
pub record OrderIs (s : Store) (came out : Order) : Type 0 where
  pub answer : Result ℕ Hidden
  pub right : UncoveringIs s came.cassette answer
  pub cassette : out.cassette ≡ came.cassette
  pub number : out.number ≡ uncovering_number answer
  pub lifts : out.lifts ≡ uncovering_lifts answer

-- "An order that fails gets its number .. in its own record ..; the others are still answered": each order of the row, in its place.
pub data RowIs (s : Store) : List Order → List Order → Type 0 where
  none : RowIs s [] []
  next : {o p : Order} {os ps : List Order} → OrderIs s o p → RowIs s os ps → RowIs s (o ∷ os) (p ∷ ps)

-- "Only a refused store writes nothing: the whole row then stays as it came."
pub record UncoverIs (s : Store) (came : List Order) (r : Result Unit Fault) (out : List Order) : Type 0 where
  pub verdict : Only verdict_number (store_fault s) r
  pub answered : Accepted s → RowIs s came out
  pub refused : (Accepted s → ⊥) → out ≡ came
