-- When number 12 does not apply: each part of `in_place`, and what it says of a store.
use borrow.Author.Tests.{eqb-true, eq-eqb}
use mathlib.Core.Bool.{Bool, true, ◌&&◌}
use mathlib.Core.Path.{◌≡◌, sym, ◌∙◌, subst}
use Prim.Native.Nat.{ℕ, suc, ◌+◌, ◌*◌, ◌/◌, ◌%◌, ◌≤◌, ◌<◌}
use native.Mathlib.Decide.{dec_lt}
use native.Mathlib.Omega.{arith}
use lib.Dec.{eqb}
use lib.ListN.{length, get_or, get_or-eq_default}
use Rattle.marks.specs.Cassettes.{numbers}
use Rattle.std.proofs.lemmas.Bool.{and_parts}
use Rattle.lifts.specs.Lifting.{most_shafts, most_rows, slot_count, shown}
use Rattle.depths.specs.Depths.{DepthsFit}
use Rattle.depths.proofs.DepthLaws.{depth_past}
use Rattle.in_place.proofs.InPlace.{range_true, range, depth_below, depth_beyond, height_beyond, slot_above, rows_in_place_lem}
use Rattle.store.specs.declared.Store.{Store}
use Rattle.store.specs.Slots.{depth, height, slot}
use Rattle.in_place.specs.InPlace.{in_range, all_below, rows_in_place, depth_in_place, shaft_in_place, arrays_in_place}
use Rattle.store.specs.Accept.{sized, in_place}
use Rattle.store.specs.Sound.{Shaped}
use Rattle.in_place.proofs.AllBelow.{all_true, all_of}

module _ (s : Store) where
  -- where the arrays have their lengths, the frame and the shafts decide
  pub by_arrays : length s.depths ≡ most_shafts → length s.heights ≡ most_shafts → length s.slots ≡ slot_count
      → in_place s ≡ arrays_in_place s.m s.depths s.heights s.slots
  unfolding in_place
  by_arrays d a b = simp (eq-eqb (length s.depths) most_shafts d, eq-eqb (length s.heights) most_shafts a, eq-eqb (length s.slots) slot_count b)

  -- what `in_place` says of a store
  module _ (e : in_place s ≡ true) where
    parts : (in_range s.m ≡ true) × (sized s ≡ true) × (all_below most_shafts (shaft_in_place s.m s.depths s.heights s.slots) ≡ true)
    unfolding in_place
    parts =
        let p = and_parts (sized s) _ e in
        let q = and_parts (in_range s.m) _ p.1 in
        (q.0, p.0, q.1)

    pub shafts_in_range : (0 < s.m) × (s.m ≤ most_shafts)
    shafts_in_range = range s.m parts.0

    lengths : Bool
    lengths = eqb (length s.depths) most_shafts && eqb (length s.heights) most_shafts

    arrays_sized : (length s.depths ≡ most_shafts) × (length s.heights ≡ most_shafts) × (length s.slots ≡ slot_count)
    unfolding lengths
    arrays_sized =
        let q = and_parts lengths (eqb (length s.slots) slot_count) parts.1 in
        let r = and_parts (eqb (length s.depths) most_shafts) (eqb (length s.heights) most_shafts) q.0 in
        (eqb-true (length s.depths) most_shafts r.0, eqb-true (length s.heights) most_shafts r.1, eqb-true (length s.slots) slot_count q.1)

    each_in_place : (x : ℕ) → x < most_shafts → (depth_in_place s.m s.depths x ≡ true) × (rows_in_place s.m s.heights s.slots x ≡ true)
    each_in_place x i =
        and_parts (depth_in_place s.m s.depths x) (rows_in_place s.m s.heights s.slots x)
        (all_true most_shafts (shaft_in_place s.m s.depths s.heights s.slots) parts.2 x i)

    depth_in_range : (x : ℕ) → x < s.m → (0 < depth s x) × (depth s x ≤ most_rows)
    depth_in_range x h =
        range (depth s x) (sym (depth_below s.m s.depths x h) ∙ (each_in_place x (omega (arith, shafts_in_range.1))).0)

    no_depth_beyond : (x : ℕ) → s.m ≤ x → depth s x ≡ 0
    no_depth_beyond x h =
        elim (dec_lt x most_shafts) [
          | yes i ↦ eqb-true (depth s x) 0 (sym (depth_beyond s.m s.depths x h) ∙ (each_in_place x i).0)
          | no i ↦ depth_past s.depths x (omega (arith, arrays_sized.0))
        ]

    pub depths_fit : DepthsFit s.depths
    depths_fit x = elim (dec_lt x s.m) [ yes h ↦ (depth_in_range x h).1 | no h ↦ omega (arith, no_depth_beyond x (omega arith)) ]

    pub some_depth : (x : ℕ) → x < s.m → 0 < depth s x
    some_depth x h = (depth_in_range x h).0

    no_height_beyond : (x : ℕ) → s.m ≤ x → height s x ≡ 0
    no_height_beyond x h =
        elim (dec_lt x most_shafts) [
          | yes i ↦ height_beyond s.m s.heights s.slots x (each_in_place x i).1 h
          | no i ↦ get_or-eq_default s.heights 0 (omega (arith, arrays_sized.1))
        ]

    -- above the rows up to the height, and past the arrays, nothing is recorded
    slots_numbered : ((x k : ℕ) → x < s.m → k < height s x → slot s x (suc k) < numbers) → (i : ℕ) → get_or s.slots i 0 < numbers
    unfolding shown
    slots_numbered shows i =
        let at : 16 * (i / 16) + i % 16 ≡ i = omega arith in
        let x = i / 16 in
        let k = i % 16 in
        let past : most_shafts ≤ x → get_or s.slots i 0 ≡ 0 = λ h. get_or-eq_default s.slots 0 (omega (arith, arrays_sized.2)) in
        elim (dec_lt x most_shafts) [
          | yes h ↦ subst (λ (j : ℕ). get_or s.slots j 0 < numbers) at (elim (dec_lt k (height s x)) [
            | yes g ↦ shows x k (elim (dec_lt x s.m) [ yes b ↦ b | no b ↦ absurd (omega (arith, no_height_beyond x (omega arith))) ]) g
            | no g ↦ omega (arith, slot_above s.m s.heights s.slots x (each_in_place x h).1 k (omega arith) (omega arith))
          ])
          | no h ↦ omega (arith, past (omega arith))
        ]

    -- where besides no shaft below m is too high, and its rows up to the height show what a slot may show, the store is shaped
    pub in_place_shaped : ((x : ℕ) → x < s.m → height s x ≤ depth s x) → ((x k : ℕ) → x < s.m → k < height s x → slot s x (suc k) < numbers) → Shaped s
    in_place_shaped low shows = record {
      depths_sized = arrays_sized.0;
      heights_sized = arrays_sized.1;
      slots_sized = arrays_sized.2;
      numbered = slots_numbered shows;
      shafts = shafts_in_range.1;
      rows = depths_fit;
      heights = λ x. elim (dec_lt x s.m) [ yes h ↦ low x h | no h ↦ omega (arith, no_height_beyond x (omega arith)) ];
      none_beyond = no_depth_beyond;
      none_above = λ x k i. slot_above s.m s.heights s.slots x (each_in_place x i).1 k;
    }

  -- a shaped store with a shaft and a row is in place
  module _ (p : Shaped s) (m : 0 < s.m) (some : (x : ℕ) → x < s.m → 0 < depth s x) where
    depth_placed : (x : ℕ) → depth_in_place s.m s.depths x ≡ true
    depth_placed x =
        elim (dec_lt x s.m) [
          | yes h ↦ depth_below s.m s.depths x h ∙ range_true (depth s x) (some x h) (p.rows x)
          | no h ↦ (let b : s.m ≤ x = omega arith in depth_beyond s.m s.depths x b ∙ eq-eqb (depth s x) 0 (p.none_beyond x b))
        ]

    shaft_placed : (x : ℕ) → x < most_shafts → shaft_in_place s.m s.depths s.heights s.slots x ≡ true
    shaft_placed x i =
        simp (depth_placed x)
        (rows_in_place_lem s.m s.heights s.slots x (λ h. omega (arith, p.heights x, p.none_beyond x h)) (λ k. p.none_above x k i))

    pub shaped_in_place : in_place s ≡ true
    shaped_in_place =
        by_arrays p.depths_sized p.heights_sized p.slots_sized
        ∙ simp (range_true s.m m p.shafts, all_of most_shafts (shaft_in_place s.m s.depths s.heights s.slots) shaft_placed)
