-- What the C call that answers a row of orders promises (document 02, 1/13: "Only a refused store writes nothing: the whole row then stays as it came").
use Rattle.std.specs.Prelude.{List, ◌≡◌, ℕ}
use Rattle.calls.specs.Shared.{store_in, read_fault}
use Rattle.orders.specs.declared.Order.{Order}
use Rattle.orders.specs.Orders.{RowIs}

-- The call gives the number of the image's first fault, 0 for none. The row is answered on the image's store, or left as it came where the image is refused.
pub record UncoverCallIs (a : List ℕ) (came : List Order) (r : ℕ) (out : List Order) : Type 0 where
  pub number : r ≡ read_fault a
  pub answered : read_fault a ≡ 0 → RowIs (store_in a) came out
  pub refused : (read_fault a ≡ 0 → ⊥) → out ≡ came
