-- The store of the shafts of a set has their depths, their heights and their slots, and so their stacks; and no other shaped store has.
use mathlib.Core.List.{List, ◌∷◌}
use mathlib.Core.Path.{◌≡◌, refl, sym, ap, ◌∙◌}
use Prim.Native.Nat.{ℕ, zero, suc, ◌+◌, ◌*◌, ◌/◌, ◌%◌, ◌≤◌, ◌<◌}
use native.Mathlib.Decide.{dec_lt}
use native.Mathlib.Omega.{arith}
use lib.ListN.{length, get_or-eq_default}
use Rattle.lifts.specs.Lifting.{most_shafts, most_rows, slot_count, shown}
use Rattle.depths.proofs.DepthLaws.{depth_read, depth_past, depths_same}
use Rattle.rows.specs.Rows.{rows_down}
use Rattle.store.specs.declared.Store.{Store}
use Rattle.store.specs.Slots.{depth, height, slot, stack}
use Rattle.store.specs.Sound.{Shaped}
use Rattle.store.proofs.Rows.{slot_numbered, stack_length}
use Rattle.store.proofs.Views.{same_stacks}
use Rattle.sets.specs.Sets.{shafts_in}
use Rattle.sets.proofs.SetLaws.{shafts_few, placed_shaft}
use Rattle.parts.specs.Parts.{tabulated, part_over, part}
use Rattle.parts.specs.PartOf.{named, PartOf}
use Rattle.parts.proofs.Tabulated.{tabulated_length, tabulated_at}

-- rows that show the same, of any two shafts
rows_alike : (a b : List ℕ) (x y n : ℕ) → ((k : ℕ) → k < n → shown a x (suc k) ≡ shown b y (suc k)) → rows_down a x n ≡ rows_down b y n
unfolding rows_down
rows_alike a b x y zero h = refl
rows_alike a b x y (suc n) h =
    let tail = rows_alike a b x y n (λ k i. h k (omega arith)) in
    ap (λ (c : ℕ). c ∷ rows_down a x n) (h n (omega arith)) ∙ ap (λ (l : List ℕ). shown b y (suc n) ∷ l) tail

module _ (some : ℕ) (s : Store) (p : Shaped s) where
  few : length (shafts_in some s.m) ≤ most_shafts
  few = omega (arith, shafts_few some s.m, p.shafts)

  -- past the shafts of the set there is none
  pub none_named : (i : ℕ) → length (shafts_in some s.m) ≤ i → named some s i ≡ most_shafts
  none_named i h = get_or-eq_default (shafts_in some s.m) most_shafts h

  no_depth : depth s most_shafts ≡ 0
  no_depth = p.none_beyond most_shafts p.shafts

  no_height : height s most_shafts ≡ 0
  no_height = omega (arith, p.heights most_shafts, no_depth)

  no_slot : (k : ℕ) → slot s most_shafts (suc k) ≡ 0
  unfolding shown
  no_slot k = get_or-eq_default s.slots 0 (omega (arith, p.slots_sized))

  part_depth : (i : ℕ) → depth (part some s) i ≡ depth s (named some s i)
  unfolding part_over
  part_depth i =
      let f : ℕ → ℕ = λ j. depth s (named some s j) in
      elim (dec_lt i most_shafts) [
        | yes h ↦ sym (depth_read (tabulated most_shafts f) i) ∙ tabulated_at f most_shafts i h
        | no h ↦ depth_past (tabulated most_shafts f) i (omega (arith, tabulated_length f most_shafts)) ∙ sym (ap (depth s) (none_named i (omega (arith, few))) ∙ no_depth)
      ]

  part_height : (i : ℕ) → height (part some s) i ≡ height s (named some s i)
  unfolding part_over
  part_height i =
      let f : ℕ → ℕ = λ j. height s (named some s j) in
      elim (dec_lt i most_shafts) [
        | yes h ↦ tabulated_at f most_shafts i h
        | no h ↦ get_or-eq_default (tabulated most_shafts f) 0 {n = i} (omega (arith, tabulated_length f most_shafts)) ∙ sym (ap (height s) (none_named i (omega (arith, few))) ∙ no_height)
      ]

  slot_at : ℕ → ℕ
  slot_at q = slot s (named some s (q / 16)) (suc (q % 16))

  part_slot : (i k : ℕ) → k < most_rows → slot (part some s) i (suc k) ≡ slot s (named some s i) (suc k)
  unfolding part_over shown slot_at
  part_slot i k j =
      let q : (16 * i + k) / 16 ≡ i = omega arith in
      let r : (16 * i + k) % 16 ≡ k = omega arith in
      elim (dec_lt i most_shafts) [
        | yes h ↦ tabulated_at slot_at slot_count (16 * i + k) (omega arith) ∙ rw (q, r) refl
        | no h ↦ get_or-eq_default (tabulated slot_count slot_at) 0 {n = 16 * i + k} (omega (arith, tabulated_length slot_at slot_count)) ∙ sym (ap (λ (x : ℕ). slot s x (suc k)) (none_named i (omega (arith, few))) ∙ no_slot k)
      ]

  part_shaped : Shaped (part some s)
  unfolding part_over slot_at
  part_shaped = record {
    depths_sized = tabulated_length (λ i. depth s (named some s i)) most_shafts;
    heights_sized = tabulated_length (λ i. height s (named some s i)) most_shafts;
    slots_sized = tabulated_length slot_at slot_count;
    numbered = λ q. elim (dec_lt q slot_count) [
      | yes h ↦ omega (arith, tabulated_at slot_at slot_count q h, slot_numbered s (named some s (q / 16)) (suc (q % 16)) p.numbered)
      | no h ↦ omega (arith, get_or-eq_default (tabulated slot_count slot_at) 0 {n = q} (omega (arith, tabulated_length slot_at slot_count)))
    ];
    shafts = few;
    rows = λ x. omega (arith, part_depth x, p.rows (named some s x));
    heights = λ x. omega (arith, part_depth x, part_height x, p.heights (named some s x));
    none_beyond = λ x h. part_depth x ∙ ap (depth s) (none_named x h) ∙ no_depth;
    none_above = λ x k i j h. part_slot x k j ∙ elim (dec_lt x (length (shafts_in some s.m))) [
      | yes b ↦ p.none_above (named some s x) k (omega (arith, (placed_shaft some s.m x b).below, p.shafts)) j (omega (arith, part_height x))
      | no b ↦ ap (λ (y : ℕ). slot s y (suc k)) (none_named x (omega arith)) ∙ no_slot k
    ];
  }

  part_stack : (i : ℕ) → stack (part some s) i ≡ stack s (named some s i)
  unfolding stack
  part_stack i =
      rw (part_height i) (rows_alike (part some s).slots s.slots i (named some s i) (height s (named some s i))
      λ k h. part_slot i k (omega (arith, p.heights (named some s i), p.rows (named some s i))))

  pub part_is_lem : PartOf some s (part some s)
  unfolding part_over
  part_is_lem = record { shaped = part_shaped; shafts = refl; depths = part_depth; stacks = part_stack }

-- a part has the heights of its shafts
pub part_heights : {some : ℕ} {s r : Store} → PartOf some s r → (i : ℕ) → height r i ≡ height s (named some s i)
part_heights {some} {s} {r} p i = sym (stack_length r i) ∙ ap length (p.stacks i) ∙ stack_length s (named some s i)

-- there is one store of the shafts of a set
pub part_alone : {some : ℕ} {s r q : Store} → PartOf some s r → PartOf some s q → r ≡ q
part_alone {some} {s} {r} {q} a b =
    same_stacks r q a.shaped b.shaped
    (record {
      shafts = a.shafts ∙ sym b.shafts;
      depths = depths_same r.depths q.depths a.shaped.depths_sized b.shaped.depths_sized (λ x h. a.depths x ∙ sym (b.depths x));
    })
    (λ x. a.stacks x ∙ sym (b.stacks x))
