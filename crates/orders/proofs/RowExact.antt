-- One row alone keeps the promise for a row, and one verdict: two that do are the same (document 01, "Agreement on the contracts").
use mathlib.Core.List.{List, ◌∷◌}
use mathlib.Core.Path.{◌≡◌, refl, sym, ap, ◌∙◌}
use native.Mathlib.Decide.{ℕ_discrete}
use native.Mathlib.Omega.{arith}
use Rattle.store.specs.declared.Store.{Store}
use Rattle.std.specs.Prelude.{Result}
use Rattle.store.specs.declared.Fault.{Fault}
use Rattle.store.specs.Accept.{store_fault, Accepted}
use Rattle.uncovering.specs.Numbers.{uncovering_number, uncovering_lifts}
use Rattle.uncovering.proofs.Exact.{uncovering_exact}
use Rattle.orders.specs.declared.Order.{Order}
use Rattle.orders.specs.Orders.{OrderIs, RowIs, none, next, UncoverIs}

module _ (s : Store) (p : Accepted s) where
  order_exact : {came a b : Order} → OrderIs s came a → OrderIs s came b → a ≡ b
  order_exact {came} {a} {b} x y =
      let e = uncovering_exact s p came.cassette x.answer y.answer x.right y.right in
      let c : a.cassette ≡ b.cassette = omega arith in
      let n : a.number ≡ b.number = omega (arith, ap uncovering_number e) in
      let l : a.lifts ≡ b.lifts = omega (arith, ap uncovering_lifts e) in
      λ i. record { cassette = c i; number = n i; lifts = l i }

  pub row_exact : {came a b : List Order} → RowIs s came a → RowIs s came b → a ≡ b
  row_exact none none = refl
  row_exact (next x r) (next y t) = λ i. order_exact x y i ∷ row_exact r t i

pub uncover_exact : (s : Store) {came a b : List Order} {v w : Result Unit Fault} → UncoverIs s came v a → UncoverIs s came w b → (v ≡ w) × (a ≡ b)
uncover_exact s x y = (
  y.verdict.alone _ x.verdict.has,
  elim (ℕ_discrete (store_fault s) 0) [
    | yes e ↦ row_exact s e (x.answered e) (y.answered e)
    | no n ↦ x.refused n ∙ sym (y.refused n)
  ],
)
