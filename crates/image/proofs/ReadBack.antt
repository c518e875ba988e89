-- A store that is accepted, written as bits and read: each part of the reading gives back the part that was written.
use borrow.Author.Tests.{le-ltb}
use mathlib.Core.Bool.{Bool, true, false, cond}
use mathlib.Core.List.{List, [], ◌∷◌, ◌++◌, append-nil, append_assoc}
use mathlib.Core.Path.{◌≡◌, refl, sym, ap, ◌∙◌}
use Prim.Native.Nat.{ℕ, zero, suc, ◌+◌, ◌-◌, ◌*◌, ◌≤◌, ◌<◌}
use native.Mathlib.Nat.{add-suc, add-zero, mul-suc}
use native.Mathlib.Omega.{arith}
use Rattle.bits.specs.Fields.{bits, packed}
use Rattle.marks.specs.Cassettes.{cassette_fault}
use Rattle.marks.proofs.Faulted.{first_none}
use lib.ListN.{get_or, set}
use Rattle.depths.specs.Depths.{depth_by}
use Rattle.lifts.specs.Lifting.{most_shafts, most_rows, slot_count, shown}
use Rattle.store.specs.declared.Store.{Store}
use Rattle.store.specs.Slots.{held, depth, height, slot, upward, cassettes_below}
use Rattle.rows.specs.Rows.{rows_up, rows_fault}
use Rattle.store.specs.Accept.{shaft_fault, shafts_fault}
use Rattle.store.specs.Sound.{Shaped}
use Rattle.rows.proofs.Walk.{row_none}
use Rattle.store.proofs.Walk.{not_too_high}
use Rattle.image.specs.Coding.{meant, coded, codable, cassette_bits}
use Rattle.image.specs.Image.{frame_width, height_width, cassette_width, own_depths, field_if, column_bits, columns_bits, shaft_bits, shafts_bits}
use Rattle.image.specs.Reading.{Rest, deepened, take_cassette, read_row, read_rows, read_column, read_height, read_shaft, read_shafts}
use Rattle.image.proofs.Coding.{meant_coded, coded_lt, cassettes_append}
use Rattle.image.proofs.Cut.{cut_at, cut, cut_set, cut_to}
use Rattle.image.proofs.Nexts.{next_reads, if_reads}

module _ (s : Store) (shaped : Shaped s) where
  -- rows of shaft x, as fields of w bits that have a value for each number
  module _ (w : ℕ) (codes : (i : ℕ) → i < slot_count → codable w (get_or s.slots i 0) ≡ true) (x : ℕ) (below : x < most_shafts) where
    row_back : (k : ℕ) (b : List ℕ) (r : List Bool) (c : Rest) → k < most_rows → cassette_fault b (slot s x (suc k)) ≡ 0
        → read_row w x k b (cut s (suc x) (16 * x + k)) (bits w (coded w (slot s x (suc k))) ++ r) c ≡ c (b ++ (slot s x (suc k) ∷ [])) (cut s (suc x) (16 * x + suc k)) r
    unfolding shown
    row_back k b r c h f =
        let v = slot s x (suc k) in
        let t = cut s (suc x) (16 * x + k) in
        let e = cut_set slot_count s.slots shaped.slots_sized (16 * x + k) (omega arith) in
        let is = codes (16 * x + k) (omega arith) in
        next_reads w (coded w v) r (λ u q. take_cassette x k (meant w u) b t q c) (coded_lt w v is) ∙ rw (meant_coded w v is, f, add-suc, e)

    rows_back : (k : ℕ) (r : List Bool) (c : Rest) → k ≤ most_rows → ((j : ℕ) → j < k → cassette_fault (cassettes_below s x ++ upward s x j) (slot s x (suc j)) ≡ 0)
        → read_rows w x k (cassettes_below s x) (cut s (suc x) (16 * x)) (cassette_bits w (upward s x k) ++ r) c
        ≡ c (cassettes_below s x ++ upward s x k) (cut s (suc x) (16 * x + k)) r
    unfolding read_rows rows_up packed
    rows_back zero r c h f = rw (append-nil, add-zero)
    rows_back (suc k) r c h f =
        let b = cassettes_below s x in
        simp (cassettes_append, append_assoc, append-nil)
        (rows_back k (bits w (coded w (slot s x (suc k))) ++ r) (λ d t q. read_row w x k d t q c) (omega arith) (λ j p. f j (omega arith))
        ∙ row_back k (b ++ upward s x k) r c (omega arith) (f k (omega arith)) ∙ rw append_assoc)

  -- shaft x, whose depth is known: its height, and its rows
  module _ (w : ℕ) (codes : (i : ℕ) → i < slot_count → codable w (get_or s.slots i 0) ≡ true) (x : ℕ) (below : x < most_shafts) where
    height_back : (r : List Bool) (c : Rest) → height s x ≤ depth s x → rows_fault (cassettes_below s x) s.slots x (height s x) ≡ 0
        → read_height w x (depth s x) (cassettes_below s x) (held s.m (cut_at most_shafts (suc x) s.depths) (cut_at most_shafts x s.heights) (cut_at slot_count (16 * x) s.slots))
        (bits height_width (height s x) ++ (cassette_bits w (upward s x (height s x)) ++ r)) c
        ≡ c (cassettes_below s (suc x)) (cut s (suc x) (16 * suc x)) r
    unfolding read_column cassettes_below shown
    height_back r c h f =
        let v = height s x in
        let b = cassettes_below s x in
        let deep = cut_at most_shafts (suc x) s.depths in
        let n : v ≤ most_rows = omega (arith, shaped.rows x) in
        let l = cassette_bits w (upward s x v) ++ r in
        next_reads height_width v l (λ u q. read_column w x (depth s x) u b (held s.m deep (cut_at most_shafts x s.heights) (cut_at slot_count (16 * x) s.slots)) q c) (omega arith)
        ∙ rw (le-ltb (depth s x) v h) refl
        ∙ ap (λ (a : List ℕ). read_rows w x v b (held s.m deep a (cut_at slot_count (16 * x) s.slots)) l c)
        (cut_set most_shafts s.heights shaped.heights_sized x below)
        ∙ rows_back w codes x below v r c n (λ j p. row_none b s.slots x j v f p)
        ∙ ap (λ (a : List ℕ). c (b ++ upward s x v) (held s.m deep (cut_at most_shafts (suc x) s.heights) a) r)
        (cut_to slot_count s.slots shaped.slots_sized (16 * x + v) (16 * suc x) (omega (arith, mul-suc 16 x)) (omega (arith, mul-suc 16 x))
        (λ i p q.
        let e : 16 * x + (i - 16 * x) ≡ i = omega arith in
        rw e at (shaped.none_above x (i - 16 * x) below (omega (arith, mul-suc 16 x)) (omega arith))))

  -- the shafts in form f, where the head's depth − 1 is v
  module _ (f v : ℕ) (codes : (i : ℕ) → i < slot_count → codable (cassette_width f) (get_or s.slots i 0) ≡ true) (some : (x : ℕ) → x < s.m → 0 < depth s x)
      (common : own_depths f ≡ false → (x : ℕ) → x < s.m → depth s x ≡ v + 1) where
    deeper : (x : ℕ) → x < s.m → set (cut_at most_shafts x s.depths) x (depth s x) ≡ cut_at most_shafts (suc x) s.depths
    unfolding depth_by
    deeper x below = cut_set most_shafts s.depths shaped.depths_sized x (omega (arith, shaped.shafts))

    shaft_back : (x : ℕ) (r : List Bool) (c : Rest) → x < s.m → height s x ≤ depth s x → rows_fault (cassettes_below s x) s.slots x (height s x) ≡ 0
        → read_shaft f v x (cassettes_below s x) (cut s x (16 * x)) (shaft_bits f s x ++ r) c ≡ c (cassettes_below s (suc x)) (cut s (suc x) (16 * suc x)) r
    unfolding column_bits
    shaft_back x r c below h g =
        let b = cassettes_below s x in
        let t = cut s x (16 * x) in
        let d : depth s x - 1 + 1 ≡ depth s x = omega (arith, some x below) in
        let there = field_if (own_depths f) frame_width (depth s x - 1) in
        let high = bits height_width (height s x) in
        let w = cassette_width f in
        let rows = cassette_bits w (upward s x (height s x)) in
        rw (append_assoc (there ++ high) rows r, append_assoc there high (rows ++ r))
        (if_reads (own_depths f) frame_width v (depth s x - 1) (high ++ (rows ++ r)) (λ u q. read_height w x (u + 1) b (deepened t x (u + 1)) q c)
        (omega (arith, shaped.rows x))
        ∙ ap (λ (k : ℕ). read_height w x k b (deepened t x k) (high ++ (rows ++ r)) c) (ap (λ (k : ℕ). k + 1) (named (own_depths f) (λ e. omega (arith, common e x below))) ∙ d)
        ∙ ap (λ (a : List ℕ). read_height w x (depth s x) b (held s.m a (cut_at most_shafts x s.heights) (cut_at slot_count (16 * x) s.slots)) (high ++ (rows ++ r)) c) (deeper x below)
        ∙ height_back w codes x (omega (arith, shaped.shafts)) r c h g)
      where
        named : (own : Bool) → (own ≡ false → depth s x - 1 ≡ v) → cond own (depth s x - 1) v ≡ depth s x - 1
        named true e = refl
        named false e = sym (e refl)

    pub shafts_back : (x : ℕ) (r : List Bool) (c : Rest) → x ≤ s.m → shafts_fault s x ≡ 0
        → read_shafts f v x [] (cut s 0 0) (shafts_bits f s x ++ r) c ≡ c (cassettes_below s x) (cut s x (16 * x)) r
    unfolding read_shafts columns_bits cassettes_below shafts_fault
    shafts_back zero r c h g = refl
    shafts_back (suc x) r c h g =
        let p = first_none (shafts_fault s x) (shaft_fault s x) g in
        let q = not_too_high s x p.1 in
        rw (append_assoc (shafts_bits f s x) (shaft_bits f s x) r)
        (shafts_back x (shaft_bits f s x ++ r) (λ b t l. read_shaft f v x b t l c) (omega arith) p.0 ∙ shaft_back x r c (omega arith) q.0 q.1)
