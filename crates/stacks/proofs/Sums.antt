-- Sums over the shafts: what changes where two functions differ at one place or at two, and how a smaller place is found from the sums.
use mathlib.Core.Path.{◌≡◌, sym, ap, ◌∙◌, subst⁻¹}
use mathlib.Core.Logic.{◌≢◌}
use Prim.Native.Nat.{ℕ, zero, suc, ◌+◌, ◌*◌, ◌≤◌, ◌<◌}
use native.Mathlib.Nat.{le_antisymm}
use native.Mathlib.Decide.{ℕ_discrete, dec_lt}
use native.Mathlib.Omega.{arith}
use Rattle.stacks.specs.Count.{sum, greatest}

-- What holds at a and at every other number holds at every number.
pub everywhere : (P : ℕ → Type 0) (a : ℕ) → P a → ((i : ℕ) → i ≢ a → P i) → (i : ℕ) → P i
everywhere P a here elsewhere i = elim (ℕ_discrete i a) [ yes e ↦ subst⁻¹ P e here | no n ↦ elsewhere i n ]

-- Sums keep the order.
pub sum_le : (n : ℕ) (f g : ℕ → ℕ) → ((i : ℕ) → i < n → f i ≤ g i) → sum n f ≤ sum n g
unfolding sum
sum_le zero f g h = omega arith
sum_le (suc n) f g h = omega (arith, sum_le n f g (λ i p. h i (omega arith)), h n (omega arith))

-- Equal functions have equal sums.
pub sum_equal : (n : ℕ) (f g : ℕ → ℕ) → ((i : ℕ) → i < n → f i ≡ g i) → sum n f ≡ sum n g
sum_equal n f g h =
    le_antisymm (sum_le n f g (λ i p. omega (arith, h i p))) (sum_le n g f (λ i p. omega (arith, h i p)))

-- The sum of two functions added up.
pub sum_add : (n : ℕ) (f g : ℕ → ℕ) → sum n (λ i. f i + g i) ≡ sum n f + sum n g
unfolding sum
sum_add zero f g = omega arith
sum_add (suc n) f g = omega (arith, sum_add n f g)

-- If f is no more than g outside a, the sum of f without a is no more than that of g.
pub sum_le_outside : (n : ℕ) (f g : ℕ → ℕ) (a : ℕ) → a < n → ((i : ℕ) → i < n → i ≢ a → f i ≤ g i) → g a + sum n f ≤ sum n g + f a
unfolding sum
sum_le_outside zero f g a p h = omega arith
sum_le_outside (suc n) f g a p h = elim (ℕ_discrete n a) [
  | yes e ↦ omega (arith, ap f e, ap g e, sum_le n f g (λ i r. h i (omega arith) (omega arith)))
  | no e ↦ omega (arith, sum_le_outside n f g a (omega arith) (λ i r. h i (omega arith)), h n (omega arith) e)
]

-- The same outside two places.
pub sum_le_outside_two : (n : ℕ) (f g : ℕ → ℕ) (a b : ℕ) → a ≢ b → a < n → b < n → ((i : ℕ) → i < n → i ≢ a → i ≢ b → f i ≤ g i)
    → g a + g b + sum n f ≤ sum n g + f a + f b
unfolding sum
sum_le_outside_two zero f g a b ne p q h = omega arith
sum_le_outside_two (suc n) f g a b ne p q h = go (ℕ_discrete n a) (ℕ_discrete n b) (λ r s. sum_le_outside_two n f g a b ne r s (λ i t. h i (omega arith)))
  where
    go : Dec (n ≡ a) → Dec (n ≡ b) → (a < n → b < n → g a + g b + sum n f ≤ sum n g + f a + f b)
        → g a + g b + (sum n f + f n) ≤ sum n g + g n + f a + f b
    go (yes e) (yes e') ih = absurd (ne (sym e ∙ e'))
    go (yes e) (no e') ih = omega (arith, ap f e, ap g e, sum_le_outside n f g b (omega arith) (λ i r s. h i (omega arith) (omega arith) s))
    go (no e) (yes e') ih = omega (arith, ap f e', ap g e', sum_le_outside n f g a (omega arith) (λ i r s. h i (omega arith) s (omega arith)))
    go (no e) (no e') ih = omega (arith, ih (omega arith) (omega arith), h n (omega arith) e e')

-- Each term is part of the sum.
pub term_le_sum : (n : ℕ) (f : ℕ → ℕ) (a : ℕ) → a < n → f a ≤ sum n f
term_le_sum n f a p = omega (arith, sum_le_outside n (λ i. 0) f a p (λ i q r. omega arith))

-- Two functions that differ at a alone: their sums differ as they do at a.
pub sum_differ_one : (n : ℕ) (f g : ℕ → ℕ) (a : ℕ) → a < n → ((i : ℕ) → i < n → i ≢ a → f i ≡ g i) → g a + sum n f ≡ sum n g + f a
sum_differ_one n f g a p h =
    omega (arith, sum_le_outside n f g a p (λ i q r. omega (arith, h i q r)), sum_le_outside n g f a p (λ i q r. omega (arith, h i q r)))

-- Two functions that differ at a and b alone: their sums differ as they do there.
pub sum_differ_two : (n : ℕ) (f g : ℕ → ℕ) (a b : ℕ) → a ≢ b → a < n → b < n → ((i : ℕ) → i < n → i ≢ a → i ≢ b → f i ≡ g i)
    → g a + g b + sum n f ≡ sum n g + f a + f b
sum_differ_two n f g a b ne p q h =
    omega (arith, sum_le_outside_two n f g a b ne p q (λ i r s t. omega (arith, h i r s t)), sum_le_outside_two n g f a b ne p q (λ i r s t. omega (arith, h i r s t)))

-- A place below n and other than a where f is less than g.
pub record Less (n a : ℕ) (f g : ℕ → ℕ) : Type 0 where
  pub place : ℕ
  pub below : place < n
  pub other : place ≢ a
  pub less : f place < g place

-- Either there is such a place, or g is no more than f outside a.
pub data Look (n a : ℕ) (f g : ℕ → ℕ) : Type 0 where
  found : Less n a f g → Look n a f g
  nowhere : ((i : ℕ) → i < n → i ≢ a → g i ≤ f i) → Look n a f g

-- The search through the places below n.
pub look : (n a : ℕ) (f g : ℕ → ℕ) → Look n a f g
look zero a f g = nowhere (λ i p q. omega arith)
look (suc n) a f g = go (look n a f g) (ℕ_discrete n a) (dec_lt (f n) (g n))
  where
    none_yet : ((i : ℕ) → i < n → i ≢ a → g i ≤ f i) → (n ≢ a → g n ≤ f n) → Look (suc n) a f g
    none_yet h l = nowhere (everywhere _ n (λ q. l) (λ i e q. h i (omega arith)))

    go : Look n a f g → Dec (n ≡ a) → Dec (f n < g n) → Look (suc n) a f g
    go (found r) e l = found (record { place = r.place; below = omega arith; other = r.other; less = r.less })
    go (nowhere h) (yes e) l = none_yet h (λ q. absurd (q e))
    go (nowhere h) (no e) (yes l) = found (record { place = n; below = omega arith; other = e; less = l })
    go (nowhere h) (no e) (no l) = none_yet h (λ q. omega arith)

-- If the sum of f without a is less than that of g, there is such a place.
pub some_other_less : (n a : ℕ) (f g : ℕ → ℕ) → a < n → sum n f + g a < sum n g + f a → Less n a f g
some_other_less n a f g p h = elim (look n a f g) [ found r ↦ r | nowhere l ↦ absurd (omega (arith, sum_le_outside n g f a p l)) ]

-- The same with no place left out.
pub some_less : (n : ℕ) (f g : ℕ → ℕ) → sum n f < sum n g → Less n n f g
some_less n f g h = elim (look n n f g) [ found r ↦ r | nowhere l ↦ absurd (omega (arith, sum_le n g f (λ i p. l i p (omega arith)))) ]

-- a sum of equal terms
pub sum_same : (m k : ℕ) → sum m (λ i. k) ≡ m * k
unfolding sum
sum_same zero k = omega arith
sum_same (suc m) k = omega (arith, sum_same m k)

-- The sum of what is 0 everywhere is 0.
pub sum_none : (n : ℕ) (f : ℕ → ℕ) → ((i : ℕ) → i < n → f i ≡ 0) → sum n f ≡ 0
sum_none n f h = omega (arith, sum_equal n f (λ i. 0) h, sum_same n 0)

-- The sum of what is 0 but at one place is what it is there.
pub sum_alone : (n : ℕ) (f : ℕ → ℕ) (a : ℕ) → a < n → ((i : ℕ) → i < n → i ≢ a → f i ≡ 0) → sum n f ≡ f a
sum_alone n f a p h = omega (arith, sum_differ_one n f (λ i. 0) a p h, sum_same n 0)

-- A sum that is not 0 has a term that is not 0.
pub some_positive : (n : ℕ) (f : ℕ → ℕ) → 0 < sum n f → Less n n (λ i. 0) f
some_positive n f h = some_less n (λ i. 0) f (omega (arith, sum_same n 0))

-- no term is above the greatest, and the greatest is not above a bound of all terms
pub term_le_greatest : (m : ℕ) (f : ℕ → ℕ) (i : ℕ) → i < m → f i ≤ greatest m f
unfolding greatest
term_le_greatest zero f i h = absurd (omega arith)
term_le_greatest (suc m) f i h =
    elim (ℕ_discrete i m) [ yes e ↦ omega (arith, ap f e) | no n ↦ omega (arith, term_le_greatest m f i (omega arith)) ]

pub greatest_le : (m : ℕ) (f : ℕ → ℕ) (k : ℕ) → ((i : ℕ) → f i ≤ k) → greatest m f ≤ k
unfolding greatest
greatest_le zero f k h = omega arith
greatest_le (suc m) f k h = omega (arith, greatest_le m f k h, h m)
