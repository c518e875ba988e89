-- The tests of number 12 in the arrays of a store: each part, and what it says.
use borrow.Author.Tests.{ltb-true, leb-true, eqb-true, lt-ltb, le-ltb, le-leb, lt-leb, eq-eqb, ne_eqb}
use mathlib.Core.Bool.{Bool, true, false, ◌&&◌}
use mathlib.Core.List.{List}
use mathlib.Core.Path.{◌≡◌, refl, sym}
use Prim.Native.Nat.{ℕ, suc, ◌≤◌, ◌<◌}
use native.Mathlib.Decide.{dec_lt}
use native.Mathlib.Omega.{arith}
use lib.Dec.{leb, eqb}
use Rattle.std.proofs.lemmas.Bool.{and_parts}
use Rattle.lifts.specs.Lifting.{most_rows, height_in, shown}
use Rattle.depths.specs.Depths.{depth_by}
use Rattle.in_place.specs.InPlace.{in_range, depth_in_place, all_below, fillable, slot_in_place, rows_in_place}
use Rattle.in_place.proofs.AllBelow.{all_true, all_of, all_fails}

pub range_true : (k : ℕ) → 0 < k → k ≤ 16 → in_range k ≡ true
range_true k h i = simp (lt-ltb 0 k h, le-leb k 16 i)

pub range : (k : ℕ) → in_range k ≡ true → (0 < k) × (k ≤ 16)
range k e = let p = and_parts _ _ e in (ltb-true 0 k p.0, leb-true k 16 p.1)

and_false : (t : Bool) → (t && false) ≡ false
and_false true = refl
and_false false = refl

-- the depth of one shaft in place: from 1 to 16, or none where the shaft is not below m
module _ (m : ℕ) (depths : List ℕ) (x : ℕ) where
  pub depth_below : x < m → depth_in_place m depths x ≡ in_range (depth_by depths x)
  depth_below h = simp (lt-ltb x m h)

  pub depth_beyond : m ≤ x → depth_in_place m depths x ≡ eqb (depth_by depths x) 0
  depth_beyond h = simp (le-ltb x m h)

-- the rows of one shaft in place: its height is none where it is not below m, and every slot from its height up is empty
module _ (m : ℕ) (heights slots : List ℕ) (x : ℕ) where
  fillable_below : x < m → fillable m heights x ≡ height_in heights x
  fillable_below h = simp (lt-ltb x m h)

  fillable_beyond : m ≤ x → fillable m heights x ≡ 0
  fillable_beyond h = simp (le-ltb x m h)

  fillable_within : fillable m heights x ≤ height_in heights x
  fillable_within =
      elim (dec_lt x m) [
        | yes h ↦ omega (arith, fillable_below h)
        | no h ↦ omega (arith, fillable_beyond (omega arith))
      ]

  -- what it says
  module _ (e : rows_in_place m heights slots x ≡ true) where
    halves : (leb (height_in heights x) (fillable m heights x) ≡ true) × (all_below most_rows (slot_in_place m heights slots x) ≡ true)
    unfolding rows_in_place
    halves = and_parts (leb (height_in heights x) (fillable m heights x)) (all_below most_rows (slot_in_place m heights slots x)) e

    pub height_beyond : m ≤ x → height_in heights x ≡ 0
    height_beyond h = omega (arith, leb-true (height_in heights x) (fillable m heights x) halves.0, fillable_beyond h)

    pub slot_above : (k : ℕ) → k < most_rows → height_in heights x ≤ k → shown slots x (suc k) ≡ 0
    slot_above k h i =
        let t : slot_in_place m heights slots x k ≡ true = all_true most_rows (slot_in_place m heights slots x) halves.1 k h in
        let u : fillable m heights x ≤ k = omega (arith, fillable_within) in
        eqb-true (shown slots x (suc k)) 0 (rw (le-ltb k (fillable m heights x) u) at t)

  -- and back
  module _ (b : m ≤ x → height_in heights x ≡ 0) (a : (k : ℕ) → k < most_rows → height_in heights x ≤ k → shown slots x (suc k) ≡ 0) where
    height_fillable : height_in heights x ≤ fillable m heights x
    height_fillable =
        elim (dec_lt x m) [
          | yes h ↦ omega (arith, fillable_below h)
          | no h ↦ omega (arith, b (omega arith))
        ]

    slot_in_place_lem : (k : ℕ) → k < most_rows → slot_in_place m heights slots x k ≡ true
    slot_in_place_lem k h =
        elim (dec_lt k (fillable m heights x)) [
          | yes i ↦ rw (lt-ltb k (fillable m heights x) i)
          | no i ↦ (let u : fillable m heights x ≤ k = omega arith in
              rw (le-ltb k (fillable m heights x) u, eq-eqb (shown slots x (suc k)) 0 (a k h (omega (arith, height_fillable)))))
        ]

    pub rows_in_place_lem : rows_in_place m heights slots x ≡ true
    unfolding rows_in_place
    rows_in_place_lem = rw (le-leb (height_in heights x) (fillable m heights x) height_fillable) (all_of most_rows (slot_in_place m heights slots x) slot_in_place_lem)

-- one shaft tested: its height, then its slots from there up
module _ (m : ℕ) (heights slots : List ℕ) (x : ℕ) where
  pub rows_past : fillable m heights x < height_in heights x → false ≡ rows_in_place m heights slots x
  unfolding rows_in_place
  rows_past h = sym (simp (lt-leb (height_in heights x) (fillable m heights x) h))

  pub slot_filled : (k : ℕ) → k < most_rows → fillable m heights x ≤ k → (shown slots x (suc k) ≡ 0 → ⊥) → false ≡ rows_in_place m heights slots x
  unfolding rows_in_place
  slot_filled k h i n =
      let f : slot_in_place m heights slots x k ≡ false = simp (le-ltb k (fillable m heights x) i, ne_eqb (shown slots x (suc k)) 0 n) in
      sym (simp (all_fails most_rows (slot_in_place m heights slots x) k h f, and_false))

  pub rows_fit : height_in heights x ≤ fillable m heights x → ((k : ℕ) → fillable m heights x ≤ k → k < most_rows → shown slots x (suc k) ≡ 0)
      → true ≡ rows_in_place m heights slots x
  rows_fit h a =
      sym (rows_in_place_lem m heights slots x (λ i. omega (arith, fillable_beyond m heights slots x i)) (λ k i j. a k (omega (arith, fillable_within m heights slots x)) i))
