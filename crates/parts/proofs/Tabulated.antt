-- Lists by their values, place by place.
use mathlib.Core.List.{List, [], ◌∷◌}
use mathlib.Core.Path.{◌≡◌, refl, sym, ◌∙◌}
use Prim.Native.Nat.{ℕ, zero, suc, ◌≤◌, ◌<◌}
use native.Mathlib.Decide.{ℕ_discrete}
use native.Mathlib.Omega.{arith}
use lib.ListN.{length, get_or, set, length-set, length-append, get_or-append}
use lib.Seq.{get_or_at, get_or-set_same, get_or-set_other, ext_get_or}
use Rattle.parts.specs.Parts.{tabulated}

module _ (f : ℕ → ℕ) where
  pub tabulated_length : (n : ℕ) → length (tabulated n f) ≡ n
  unfolding tabulated
  tabulated_length zero = refl
  tabulated_length (suc n) = omega (arith, length-append (tabulated n f) (f n ∷ []), tabulated_length n)

  pub tabulated_at : (n i : ℕ) → i < n → get_or (tabulated n f) i 0 ≡ f i
  unfolding tabulated
  tabulated_at zero i h = absurd (omega arith)
  tabulated_at (suc n) i h =
      elim (ℕ_discrete i n) [
        | yes e ↦ rw e (get_or_at (tabulated n f) (f n) [] 0 n (tabulated_length n))
        | no e ↦ get_or-append (tabulated n f) (f n ∷ []) 0 i (omega (arith, tabulated_length n)) ∙ tabulated_at n i (omega arith)
      ]

  -- a list with these values
  pub tabulated_is : (n : ℕ) (l : List ℕ) → length l ≡ n → ((i : ℕ) → i < n → get_or l i 0 ≡ f i) → l ≡ tabulated n f
  tabulated_is n l e h =
      ext_get_or 0 l (tabulated n f) (e ∙ sym (tabulated_length n)) λ i k. h i (omega arith) ∙ sym (tabulated_at n i (omega arith))

-- two lists with the same values
pub tabulated_same : (f g : ℕ → ℕ) (n : ℕ) → ((i : ℕ) → i < n → f i ≡ g i) → tabulated n f ≡ tabulated n g
tabulated_same f g n h = tabulated_is g n (tabulated n f) (tabulated_length f n) λ i k. tabulated_at f n i k ∙ h i k

-- the first k places of a list of n have these values
pub record FilledTo (f : ℕ → ℕ) (n : ℕ) (l : List ℕ) (k : ℕ) : Type 0 where
  pub few : k ≤ n
  pub sized : length l ≡ n
  pub values : (i : ℕ) → i < k → get_or l i 0 ≡ f i

pub filled_none : (f : ℕ → ℕ) {n : ℕ} {l : List ℕ} → length l ≡ n → FilledTo f n l 0
filled_none f e = record { few = omega arith; sized = e; values = λ i h. absurd (omega arith) }

pub filled_more : (f : ℕ → ℕ) {n k v : ℕ} {l : List ℕ} → FilledTo f n l k → k < n → v ≡ f k → FilledTo f n (set l k v) (suc k)
filled_more f {n} {k} {v} {l} p h e = record {
  few = omega arith;
  sized = length-set l k v ∙ p.sized;
  values = λ i j. elim (ℕ_discrete i k) [
    | yes q ↦ rw q (get_or-set_same l k v 0 (omega (arith, p.sized)) ∙ e)
    | no q ↦ get_or-set_other l k i v 0 q ∙ p.values i (omega arith)
  ];
}

pub filled_all : (f : ℕ → ℕ) {n k : ℕ} {l : List ℕ} → FilledTo f n l k → n ≤ k → l ≡ tabulated n f
filled_all f {n} {k} {l} p h = tabulated_is f n l p.sized λ i j. p.values i (omega arith)
