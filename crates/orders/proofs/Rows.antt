-- A row of orders that is answered from the front: `Upto s i came ys` says that the first i orders of came have their answers in ys, and that the rest are as they came.
--     upto_next      the next order is as it came.        upto_step      it receives its answer
--     upto_end       once i is the whole length, each order has its answer
-- Assumes nothing.
use mathlib.Core.Path.{◌≡◌, refl, sym}
use mathlib.Core.List.{List, [], ◌∷◌}
use Prim.Native.Nat.{ℕ, zero, suc, ◌<◌}
use native.Mathlib.Nat.{not-suc-le-zero, le_of_suc-le-suc, suc_inj, suc-ne-zero}
use lib.ListN.{length, get_or, set}
use Rattle.store.specs.declared.Store.{Store}
use Rattle.orders.specs.declared.Order.{Order}
use Rattle.orders.specs.Orders.{OrderIs, RowIs, none as row_none, next as row_next}

pub data Upto (s : Store) : ℕ → List Order → List Order → Type 0 where
  none : {os : List Order} → Upto s zero os os
  next : {i : ℕ} {o p : Order} {os ps : List Order} → OrderIs s o p → Upto s i os ps → Upto s (suc i) (o ∷ os) (p ∷ ps)

pub upto_next : {s : Store} {i : ℕ} {came ys : List Order} → Upto s i came ys → (d : Order) → get_or ys i d ≡ get_or came i d
upto_next none d = refl
upto_next (next a u) d = upto_next u d

pub upto_step : {s : Store} {i : ℕ} {came ys : List Order} → Upto s i came ys → i < length came → (d r : Order) → OrderIs s (get_or came i d) r → Upto s (suc i) came (set ys i r)
upto_step (none {os = []}) l d r a = absurd (not-suc-le-zero l)
upto_step (none {os = o ∷ os}) l d r a = next a none
upto_step (next b u) l d r a = next b (upto_step u (le_of_suc-le-suc l) d r a)

pub upto_end : {s : Store} {i : ℕ} {came ys : List Order} → Upto s i came ys → i ≡ length came → RowIs s came ys
upto_end (none {os = []}) e = row_none
upto_end (none {os = o ∷ os}) e = absurd (suc-ne-zero (length os) (sym e))
upto_end (next a u) e = row_next a (upto_end u (suc_inj e))
