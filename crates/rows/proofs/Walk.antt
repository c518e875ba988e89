-- A walk over places in order, and over the rows of a shaft: a fault once met stays the first, and a walk without a fault met none.
use mathlib.Core.List.{List, [], ◌∷◌, ◌++◌, append_assoc}
use mathlib.Core.Path.{◌≡◌, refl, sym, ap, ◌∙◌}
use Prim.Native.Nat.{ℕ, zero, suc, ◌≤◌, ◌<◌}
use native.Mathlib.Decide.{dec_le}
use native.Mathlib.Omega.{arith}
use Rattle.marks.specs.Cassettes.{first, cassette_fault}
use Rattle.marks.proofs.Faulted.{first_none, first_skips, first_stays}
use Rattle.lifts.specs.Lifting.{shown}
use Rattle.rows.specs.Rows.{rows_up, rows_fault}

-- F k is the first fault of the places below k, and G k the fault of place k
module _ (F G : ℕ → ℕ) (more : (k : ℕ) → F (suc k) ≡ first (F k) (G k)) where
  stays : (k j : ℕ) → (F k ≡ 0 → ⊥) → k ≤ j → F j ≡ F k
  stays k zero n h = ap F (omega arith)
  stays k (suc j) n h =
      elim (dec_le k j) [
        | yes q ↦ (let e : F j ≡ F k = stays k j n q in more j ∙ first_stays (F j) (G j) (λ z. n (sym e ∙ z)) ∙ e)
        | no q ↦ ap F (omega arith)
      ]

  pub here : (k : ℕ) → F k ≡ 0 → F (suc k) ≡ G k
  here k e = more k ∙ first_skips (F k) (G k) e

  -- where place k has the fault v, and no place below it has one, v is the first fault of any more places
  pub met : (k j v : ℕ) → F k ≡ 0 → G k ≡ v → (v ≡ 0 → ⊥) → k < j → F j ≡ v
  met k j v e g n h = let q : F (suc k) ≡ v = here k e ∙ g in stays (suc k) j (λ z. n (sym q ∙ z)) h ∙ q

  pub none : (k j : ℕ) → F j ≡ 0 → k < j → G k ≡ 0
  none k zero e h = absurd (omega arith)
  none k (suc j) e h =
      let p = first_none (F j) (G j) (sym (more j) ∙ e) in
      elim (dec_le (suc k) j) [
        | yes q ↦ none k j p.0 q
        | no q ↦ ap G (omega arith) ∙ p.1
      ]

-- one row more
pub row_after : (before slots : List ℕ) (x k : ℕ) → (before ++ rows_up slots x k) ++ (shown slots x (suc k) ∷ []) ≡ before ++ rows_up slots x (suc k)
unfolding rows_up
row_after before slots x k = append_assoc before (rows_up slots x k) (shown slots x (suc k) ∷ [])

module _ (before slots : List ℕ) (x : ℕ) where
  row_fault : ℕ → ℕ
  row_fault k = cassette_fault (before ++ rows_up slots x k) (shown slots x (suc k))

  row_more : (k : ℕ) → rows_fault before slots x (suc k) ≡ first (rows_fault before slots x k) (row_fault k)
  unfolding rows_fault row_fault
  row_more k = refl

  pub row_met : (k j v : ℕ) → rows_fault before slots x k ≡ 0 → cassette_fault (before ++ rows_up slots x k) (shown slots x (suc k)) ≡ v → (v ≡ 0 → ⊥) → k < j
      → rows_fault before slots x j ≡ v
  unfolding row_fault
  row_met = met (rows_fault before slots x) row_fault row_more

  pub row_passed : (k : ℕ) → rows_fault before slots x k ≡ 0 → cassette_fault (before ++ rows_up slots x k) (shown slots x (suc k)) ≡ 0
      → rows_fault before slots x (suc k) ≡ 0
  unfolding row_fault
  row_passed k e g = here (rows_fault before slots x) row_fault row_more k e ∙ g

  pub row_none : (k j : ℕ) → rows_fault before slots x j ≡ 0 → k < j → cassette_fault (before ++ rows_up slots x k) (shown slots x (suc k)) ≡ 0
  unfolding row_fault
  row_none = none (rows_fault before slots x) row_fault row_more
