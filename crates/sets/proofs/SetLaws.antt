-- Laws of sets of shafts: the shafts of a set, rising, each once; and sums over them.
use mathlib.Core.Bool.{Bool, true, false, cond}
use mathlib.Core.List.{List, [], ◌∷◌, ◌++◌}
use mathlib.Core.Path.{◌≡◌, refl, sym, ap, ◌∙◌}
use Prim.Native.Nat.{ℕ, zero, suc, ◌+◌, ◌/◌, ◌^◌, ◌≤◌, ◌<◌}
use native.Mathlib.Decide.{ℕ_discrete, dec_lt}
use mathlib.Core.List.{append-nil}
use native.Mathlib.Nat.{zero-add, lt_trans}
use native.Mathlib.Omega.{arith}
use lib.ListN.{length, get_or, set, length-set, length-append, get_or-append}
use lib.Pow.{pow-lt, shr_lt}
use lib.Seq.{get_or-append_seam, get_or-set_same, get_or-set_other}
use Rattle.stacks.specs.Count.{sum, one}
use Rattle.stacks.proofs.Sums.{sum_equal}
use Rattle.lifts.specs.Lifting.{most_shafts}
use Rattle.sets.specs.Sets.{has, shafts_in, shaft_at}

-- what holds where a test is true and where it is false holds
pub by_test : (b : Bool) {P : Type 0} → (b ≡ true → P) → (b ≡ false → P) → P
by_test true f g = f refl
by_test false f g = g refl

-- sixteen bits have none past the sixteenth
pub none_past : (set x : ℕ) → set < 65536 → most_shafts ≤ x → has set x ≡ false
unfolding has
none_past set x h i =
    let wide : set < 2 ^ x = elim (ℕ_discrete x 16) [ yes e ↦ rw e h | no n ↦ lt_trans h (pow-lt {i = 16} {j = x} (omega arith)) ] in
    let small : set / 2 ^ x < 1 = shr_lt 0 x (rw zero-add wide) in
    let none : set / 2 ^ x ≡ 0 = omega arith in
    rw none

-- a shaft more at the end of a list stands there alone
elsewhere : (l : List ℕ) (x i : ℕ) → (i ≡ length l → ⊥) → shaft_at (l ++ (x ∷ [])) i ≡ shaft_at l i
elsewhere [] x zero n = absurd (n refl)
elsewhere [] x (suc i) n = refl
elsewhere (y ∷ l) x zero n = refl
elsewhere (y ∷ l) x (suc i) n = elsewhere l x i (λ e. n (ap suc e))

module _ (some : ℕ) where
  -- one shaft more: it is the last of them, or none of them
  pub one_more : (m : ℕ) → has some m ≡ true → shafts_in some (suc m) ≡ shafts_in some m ++ (m ∷ [])
  unfolding shafts_in
  one_more m e = rw e

  pub none_more : (m : ℕ) → has some m ≡ false → shafts_in some (suc m) ≡ shafts_in some m
  unfolding shafts_in
  none_more m e = rw e (append-nil (shafts_in some m))

  longer : (m : ℕ) → has some m ≡ true → length (shafts_in some (suc m)) ≡ suc (length (shafts_in some m))
  longer m e = ap length (one_more m e) ∙ omega (arith, length-append (shafts_in some m) (m ∷ []))

  -- at most m of them
  pub shafts_few : (m : ℕ) → length (shafts_in some m) ≤ m
  unfolding shafts_in
  shafts_few zero = omega arith
  shafts_few (suc m) = by_test (has some m) (λ e. omega (arith, longer m e, shafts_few m)) (λ e. omega (arith, ap length (none_more m e), shafts_few m))

  -- what stands at a place below m stands there below m + 1
  kept : (m i : ℕ) → i < length (shafts_in some m) → (i < length (shafts_in some (suc m))) × (shaft_at (shafts_in some (suc m)) i ≡ shaft_at (shafts_in some m) i)
  kept m i h =
      by_test (has some m)
      (λ e. (omega (arith, longer m e), ap (λ (l : List ℕ). shaft_at l i) (one_more m e) ∙ get_or-append (shafts_in some m) (m ∷ []) most_shafts i h))
      (λ e. (omega (arith, ap length (none_more m e)), ap (λ (l : List ℕ). shaft_at l i) (none_more m e)))

  -- the place of a shaft is the count of those before it
  pub shaft_placed : (x m : ℕ) → x < m → has some x ≡ true → (length (shafts_in some x) < length (shafts_in some m)) × (shaft_at (shafts_in some m) (length (shafts_in some x)) ≡ x)
  shaft_placed x zero h e = absurd (omega arith)
  shaft_placed x (suc m) h e =
      elim (ℕ_discrete x m) [
        | yes q ↦ rw q ((omega (arith, longer m (rw q at e)), ap (λ (l : List ℕ). shaft_at l (length (shafts_in some m))) (one_more m (rw q at e)) ∙ get_or-append_seam (shafts_in some m) m [] most_shafts))
        | no n ↦
            let p = shaft_placed x m (omega arith) e in
            let k = kept m (length (shafts_in some x)) p.0 in
            (k.0, k.1 ∙ p.1)
      ]

  -- at a place stands a shaft of the set below m, whose place it is
  pub record PlacedAt (m i : ℕ) : Type 0 where
    pub below : shaft_at (shafts_in some m) i < m
    pub in_set : has some (shaft_at (shafts_in some m) i) ≡ true
    pub place : length (shafts_in some (shaft_at (shafts_in some m) i)) ≡ i

  pub placed_shaft : (m i : ℕ) → i < length (shafts_in some m) → PlacedAt m i
  unfolding shafts_in
  placed_shaft zero i h = absurd (omega arith)
  placed_shaft (suc m) i h =
      elim (dec_lt i (length (shafts_in some m))) [
        | yes l ↦
            let p = placed_shaft m i l in
            let e : shaft_at (shafts_in some (suc m)) i ≡ shaft_at (shafts_in some m) i = (kept m i l).1 in
            record { below = omega (arith, e, p.below); in_set = ap (has some) e ∙ p.in_set; place = ap (λ (x : ℕ). length (shafts_in some x)) e ∙ p.place }
        | no l ↦
            by_test (has some m)
            (λ t.
            let q : i ≡ length (shafts_in some m) = omega (arith, longer m t) in
            let e : shaft_at (shafts_in some (suc m)) i ≡ m = ap (λ (k : List ℕ). shaft_at k i) (one_more m t) ∙ rw q (get_or-append_seam (shafts_in some m) m [] most_shafts) in
            record { below = omega (arith, e); in_set = ap (has some) e ∙ t; place = ap (λ (x : ℕ). length (shafts_in some x)) e ∙ sym q })
            (λ t. absurd (omega (arith, ap length (none_more m t))))
      ]

  -- a sum over the shafts of the set is the sum over all, with nothing for the others
  pub sum_over : (f : ℕ → ℕ) (m : ℕ) → sum (length (shafts_in some m)) (λ i. f (shaft_at (shafts_in some m) i)) ≡ sum m (λ x. cond (has some x) (f x) 0)
  unfolding sum shafts_in
  sum_over f zero = refl
  sum_over f (suc m) =
      let n = length (shafts_in some m) in
      by_test (has some m)
      (λ e.
      let last : shaft_at (shafts_in some (suc m)) n ≡ m = ap (λ (l : List ℕ). shaft_at l n) (one_more m e) ∙ get_or-append_seam (shafts_in some m) m [] most_shafts in
      let head : sum n (λ i. f (shaft_at (shafts_in some (suc m)) i)) ≡ sum n (λ i. f (shaft_at (shafts_in some m) i)) = sum_equal n _ _ (λ i h. ap f (kept m i h).1) in
      ap (λ (k : ℕ). sum k (λ i. f (shaft_at (shafts_in some (suc m)) i))) (longer m e)
      ∙ omega (arith, head, ap f last, sum_over f m, ap (λ (b : Bool). cond b (f m) 0) e))
      (λ e. ap (λ (l : List ℕ). sum (length l) (λ i. f (shaft_at l i))) (none_more m e) ∙ omega (arith, sum_over f m, ap (λ (b : Bool). cond b (f m) 0) e))

-- one shaft more has its number where it is in the set
pub numbered_more : (some x : ℕ) (names : List ℕ) (count : ℕ) → length names ≡ most_shafts → count ≡ length (shafts_in some x)
    → ((i : ℕ) → i < most_shafts → get_or names i 0 ≡ shaft_at (shafts_in some x) i) → count < most_shafts
    → (length (cond (has some x) (set names count x) names) ≡ most_shafts) × ((count + one (has some x) ≡ length (shafts_in some (suc x)))
    × ((i : ℕ) → i < most_shafts → get_or (cond (has some x) (set names count x) names) i 0 ≡ shaft_at (shafts_in some (suc x)) i))
numbered_more some x names count n k h few =
    by_test (has some x)
    (λ e. rw e (
      length-set names count x ∙ n,
      (
        omega (arith, k, longer some x e),
        λ i j.
            elim (ℕ_discrete i count) [
              | yes q ↦ rw q (get_or-set_same names count x 0 (omega arith) ∙ sym (ap (λ (l : List ℕ). shaft_at l count) (one_more some x e) ∙ rw k (get_or-append_seam (shafts_in some x) x [] most_shafts)))
              | no q ↦ get_or-set_other names count i x 0 q ∙ h i j ∙ sym (ap (λ (l : List ℕ). shaft_at l i) (one_more some x e) ∙ elsewhere (shafts_in some x) x i (λ z. q (z ∙ sym k)))
            ],
      ),
    ))
    (λ e. rw e (n, (omega (arith, k, ap length (none_more some x e)), λ i j. h i j ∙ sym (ap (λ (l : List ℕ). shaft_at l i) (none_more some x e)))))
