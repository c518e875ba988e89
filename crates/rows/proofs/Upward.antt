-- Rows 1 to k of a shaft, read upward: there are k of them, each number stands among them as often as in the same rows read downward, and a number that none
-- of them shows does not stand there.
use borrow.Author.Tests.{ne_eqb}
use mathlib.Core.List.{List}
use mathlib.Core.Path.{◌≡◌, refl, sym, ap}
use Prim.Native.Nat.{ℕ, zero, suc, ◌<◌}
use native.Mathlib.Omega.{arith}
use lib.ListN.{length, length-append}
use Rattle.stacks.specs.Count.{one, count}
use Rattle.stacks.proofs.Counts.{count_last}
use Rattle.lifts.specs.Lifting.{shown}
use Rattle.rows.specs.Rows.{rows_up, rows_down}

module _ (slots : List ℕ) (x : ℕ) where
  pub rows_length : (k : ℕ) → length (rows_up slots x k) ≡ k
  unfolding rows_up
  rows_length zero = refl
  rows_length (suc k) = simp length-append (omega (arith, rows_length k))

  pub rows_count : (c k : ℕ) → count c (rows_up slots x k) ≡ count c (rows_down slots x k)
  unfolding rows_up rows_down count
  rows_count c zero = refl
  rows_count c (suc k) = omega (arith, count_last c (rows_up slots x k) (shown slots x (suc k)), rows_count c k)

  pub none_shown : (c n : ℕ) → ((k : ℕ) → k < n → shown slots x (suc k) ≡ c → ⊥) → count c (rows_up slots x n) ≡ 0
  unfolding rows_up count
  none_shown c zero f = refl
  none_shown c (suc n) f =
      omega (
        arith,
        count_last c (rows_up slots x n) (shown slots x (suc n)),
        ap one (ne_eqb c (shown slots x (suc n)) (λ e. f n (omega arith) (sym e))),
        none_shown c n (λ k h. f k (omega arith)),
      )
