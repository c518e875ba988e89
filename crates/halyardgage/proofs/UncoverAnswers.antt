-- What the call on an image says of its row is no two things at once.
use mathlib.Core.List.{List}
use mathlib.Core.Path.{◌≡◌, refl, sym, ◌∙◌, subst}
use Prim.Native.Nat.{ℕ, ◌<◌}
use native.Mathlib.Decide.{ℕ_discrete}
use lib.ListN.{get_or}
use Rattle.store.specs.declared.Store.{Store}
use Rattle.calls.specs.Shared.{store_in, read_fault, OneIs}
use Rattle.calls.proofs.Readings.{stood_accepted}
use Rattle.orders.proofs.RowExact.{row_exact}
use Rattle.orders.specs.declared.Order.{Order}
use Rattle.orders.specs.Orders.{RowIs, UncoverIs}
use Rattle.halyardgage.specs.UncoverCall.{UncoverCallIs}

-- two answers that keep the call's promise are the same, and so are the rows
pub uncover_call_exact : {a : List ℕ} {came x y : List Order} {q r : ℕ} → ((i : ℕ) → get_or a i 0 < 256) → UncoverCallIs a came q x → UncoverCallIs a came r y → (q ≡ r) × (x ≡ y)
uncover_call_exact {a} small p q = (
  p.number ∙ sym q.number,
  elim (ℕ_discrete (read_fault a) 0) [
    | yes e ↦ row_exact (store_in a) (stood_accepted a small e) (p.answered e) (q.answered e)
    | no n ↦ p.refused n ∙ sym (q.refused n)
  ],
)
