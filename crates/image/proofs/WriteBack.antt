-- An accepted reading: the bits read are those of the store that it gives, and the store has no fault. Each part of the reading is taken back in turn.
use borrow.Author.Tests.{ltb-false}
use mathlib.Core.Bool.{Bool, true, false}
use mathlib.Core.List.{List, [], ◌∷◌, ◌++◌, append-nil, append_assoc}
use mathlib.Core.Path.{◌≡◌, refl, sym, ap, ◌∙◌, subst, subst⁻¹}
use Prim.Native.Nat.{ℕ, zero, suc, ◌+◌, ◌-◌, ◌*◌, ◌^◌, ◌≤◌, ◌<◌}
use native.Mathlib.Decide.{dec_lt}
use native.Mathlib.Nat.{add-suc, add-zero, mul-suc, not-suc-le-zero}
use native.Mathlib.Omega.{arith}
use lib.ListN.{length, get_or, set, length-set, drop}
use lib.Seq.{get_or-set_same, get_or-set_other}
use Rattle.bits.specs.Fields.{bits, packed}
use Rattle.bits.proofs.Widths.{field_lt}
use Rattle.marks.specs.Cassettes.{numbers, cassette_fault}
use Rattle.marks.proofs.Faulted.{given_none}
use Rattle.lifts.specs.Lifting.{most_shafts, most_rows, slot_count, height_in, shown}
use Rattle.depths.specs.Depths.{depth_by}
use Rattle.store.specs.declared.Store.{Store}
use Rattle.store.specs.Slots.{held, depth, height, slot, upward, cassettes_below}
use Rattle.rows.specs.Rows.{rows_up, rows_fault}
use Rattle.store.specs.Accept.{shafts_fault}
use Rattle.store.proofs.Typed.{each_set}
use Rattle.rows.proofs.Walk.{row_passed}
use Rattle.store.proofs.Walk.{shaft_passed, by_rows}
use Rattle.image.specs.Coding.{meant, coded, codable, cassette_bits}
use Rattle.image.specs.Image.{frame_width, height_width, cassette_width, own_depths, field_if, column_bits, columns_bits, shaft_bits, shafts_bits}
use Rattle.image.specs.Reading.{Rest, deepened, raised, take_cassette, read_row, read_rows, read_column, read_height, read_shaft, read_shafts}
use Rattle.image.proofs.Coding.{coded_meant, meant_codable, cassettes_append}
use Rattle.image.proofs.Forms.{width_narrow}
use Rattle.image.proofs.Cut.{cut_at, cut, cut_below, cut_before, cut_cut, low_set, low_to, low_zero, rows_agree, held_same}
use Rattle.image.proofs.Nexts.{accepted, unless_accepted, took, took_if}

-- nothing stands in shaft x or after it, and each number has a value of w bits
pub record Low (w x : ℕ) (t : Store) : Type 0 where
  pub depths_sized : length t.depths ≡ most_shafts
  pub heights_sized : length t.heights ≡ most_shafts
  pub slots_sized : length t.slots ≡ slot_count
  pub codes : (i : ℕ) → codable w (get_or t.slots i 0) ≡ true
  pub depths : cut_at most_shafts x t.depths ≡ t.depths
  pub heights : cut_at most_shafts x t.heights ≡ t.heights
  pub slots : cut_at slot_count (16 * x) t.slots ≡ t.slots
  pub rows : (y : ℕ) → depth t y ≤ most_rows

-- rows that hold the same have the same fault
faults_agree : (d a b : List ℕ) (x k : ℕ) → ((j : ℕ) → j < k → shown a x (suc j) ≡ shown b x (suc j)) → rows_fault d a x k ≡ rows_fault d b x k
unfolding rows_fault
faults_agree d a b x zero h = refl
faults_agree d a b x (suc k) h =
    let g : (j : ℕ) → j < k → shown a x (suc j) ≡ shown b x (suc j) = λ j p. h j (omega arith) in
    rw (faults_agree d a b x k g, rows_agree a b x k g, h k (omega arith))

-- the store t with other slots
abbrev holding : Store → List ℕ → Store
holding t l = held t.m t.depths t.heights l

-- k rows of shaft x were read into t, as fields of n bits: the slots after them, and the bits left
record Rows (n : ℕ) (s : Store) (x k : ℕ) (b : List ℕ) (t : Store) (l : List Bool) (c : Rest) : Type 0 where
  slots : List ℕ
  left : List Bool
  after : c (b ++ rows_up slots x k) (holding t slots) left ≡ accepted s
  begins : l ≡ cassette_bits n (rows_up slots x k) ++ left
  sized : length slots ≡ slot_count
  codes : (i : ℕ) → codable n (get_or slots i 0) ≡ true
  low : cut_at slot_count (16 * x + k) slots ≡ slots
  under : cut_at slot_count (16 * x) slots ≡ t.slots
  clean : rows_fault b slots x k ≡ 0

-- fields of n bits, which have no number that no slot may show
module _ (n : ℕ) (narrow : 2 ^ n ≤ numbers) (s : Store) (x : ℕ) (below : x < most_shafts) (b : List ℕ) (t : Store) (l : List Bool)
    (sized : length t.slots ≡ slot_count) (codes : (i : ℕ) → codable n (get_or t.slots i 0) ≡ true) (low : cut_at slot_count (16 * x) t.slots ≡ t.slots) where
  one_row : (k : ℕ) (c : Rest) → k < most_rows → Rows n s x k b t l (λ d u r. read_row n x k d u r c) → Rows n s x (suc k) b t l c
  unfolding rows_up shown packed
  one_row k c h r =
      let up = rows_up r.slots x k in
      let f = took n r.left (λ v q. take_cassette x k (meant n v) (b ++ up) (holding t r.slots) q c) s r.after in
      let small : f.v < 2 ^ n = rw f.is.value (field_lt _ n) in
      let v = meant n f.v in
      let p = unless_accepted (cassette_fault (b ++ up) v) _ s f.after in
      let i = 16 * x + k in
      let new = set r.slots i v in
      let kept : (j : ℕ) → j < k → shown new x (suc j) ≡ shown r.slots x (suc j) = λ j q. get_or-set_other r.slots i (16 * x + j) v 0 (omega arith) in
      let same : rows_up new x k ≡ up = rows_agree new r.slots x k kept in
      let top : shown new x (suc k) ≡ v = get_or-set_same r.slots i v 0 (omega (arith, r.sized)) in
      record {
        slots = new;
        left = drop n r.left;
        after = cc (append_assoc b up (v ∷ []), p.1);
        begins = cc (r.begins, f.is.begins, coded_meant n f.v small narrow, cassettes_append n up (v ∷ []), append-nil (bits n (coded n v)), append_assoc (cassette_bits n up) (bits n (coded n v)) (drop n r.left));
        sized = length-set r.slots i v ∙ r.sized;
        codes = each_set (λ c. codable n c ≡ true) r.slots i v (meant_codable n f.v small) r.codes;
        low = rw add-suc (low_set slot_count r.slots i v r.sized (omega arith) r.low);
        under = cut_before slot_count r.slots r.sized (16 * x) i v (omega arith) ∙ r.under;
        clean = row_passed b new x k (faults_agree b new r.slots x k kept ∙ r.clean) (rw (same, top) p.0);
      }

  rows_read : (k : ℕ) (c : Rest) → k ≤ most_rows → read_rows n x k b t l c ≡ accepted s → Rows n s x k b t l c
  unfolding read_rows rows_up packed rows_fault
  rows_read zero c h e = record {
    slots = t.slots;
    left = l;
    after = rw append-nil e;
    begins = refl;
    sized = sized;
    codes = codes;
    low = rw add-zero low;
    under = low;
    clean = refl;
  }
  rows_read (suc k) c h e = one_row k c (omega arith) (rows_read k (λ d u r. read_row n x k d u r c) (omega arith) e)

-- shaft x of an image in form f was read into t, where the head's depth − 1 is v: the store after it, and the bits left
pub record Column (f v : ℕ) (s : Store) (x : ℕ) (b : List ℕ) (t : Store) (l : List Bool) (c : Rest) : Type 0 where
  pub then : Store
  pub left : List Bool
  pub after : c (b ++ upward then x (height then x)) then left ≡ accepted s
  pub begins : l ≡ shaft_bits f then x ++ left
  pub low : Low (cassette_width f) (suc x) then
  pub under : t ≡ cut then x (16 * x)
  pub deep : 0 < depth then x
  pub common : own_depths f ≡ false → depth then x ≡ v + 1
  pub high : height then x ≤ depth then x
  pub above : (k : ℕ) → height then x ≤ k → slot then x (suc k) ≡ 0
  pub clean : rows_fault b then.slots x (height then x) ≡ 0

-- the fields of a shaft, one after the other
column_begins : (f : ℕ) (depths heights slots : List ℕ) (x u k : ℕ) (l q r left : List Bool) → depth_by depths x ≡ u + 1 → height_in heights x ≡ k
    → l ≡ field_if (own_depths f) frame_width u ++ q → q ≡ bits height_width k ++ r → r ≡ cassette_bits (cassette_width f) (rows_up slots x k) ++ left → l ≡ column_bits f depths heights slots x ++ left
unfolding column_bits
column_begins f depths heights slots x u k l q r left d h el eq er =
    let e : depth_by depths x - 1 ≡ u = omega arith in
    let there = field_if (own_depths f) frame_width u in
    let up = cassette_bits (cassette_width f) (rows_up slots x k) in
    el ∙ ap (λ (z : List Bool). there ++ z) (eq ∙ ap (λ (z : List Bool). bits height_width k ++ z) er)
    ∙ sym (rw (e, h) (append_assoc (there ++ bits height_width k) up left ∙ append_assoc there (bits height_width k) (up ++ left)))

shaft_read : (f v : ℕ) → v < most_rows → (s : Store) (x : ℕ) (b : List ℕ) (t : Store) (l : List Bool) (c : Rest) → x < most_shafts → Low (cassette_width f) x t
    → read_shaft f v x b t l c ≡ accepted s → Column f v s x b t l c
unfolding read_column shown depth_by
shaft_read f v few s x b t l c below low e =
    let g = took_if (own_depths f) frame_width v l (λ u r. read_height (cassette_width f) x (u + 1) b (deepened t x (u + 1)) r c) s few e in
    let d = g.u + 1 in
    let u = deepened t x d in
    let i = took height_width g.left (λ k q. read_column (cassette_width f) x d k b u q c) s g.after in
    let k = i.v in
    let p = unless_accepted _ _ s i.after in
    let h : k ≤ d = ltb-false d k (given_none _ 2 p.0) in
    let n : k ≤ most_rows = omega (arith, g.small) in
    let r = rows_read (cassette_width f) (width_narrow f) s x below b (raised u x k) (drop height_width g.left) low.slots_sized low.codes low.slots k c n p.1 in
    let new = holding (raised u x k) r.slots in
    let is : height new x ≡ k = get_or-set_same t.heights x k 0 (omega (arith, low.heights_sized)) in
    let are : depth new x ≡ d = get_or-set_same t.depths x d 0 (omega (arith, low.depths_sized)) in
    record {
      then = new;
      left = r.left;
      after = cc (is, r.after);
      begins = column_begins f new.depths new.heights r.slots x g.u k l _ _ r.left are is g.begins i.is.begins r.begins;
      low = record {
        depths_sized = length-set t.depths x d ∙ low.depths_sized;
        heights_sized = length-set t.heights x k ∙ low.heights_sized;
        slots_sized = r.sized;
        codes = r.codes;
        depths = low_set most_shafts t.depths x d low.depths_sized below low.depths;
        heights = low_set most_shafts t.heights x k low.heights_sized below low.heights;
        slots = low_to slot_count r.slots (16 * x + k) (16 * suc x) r.sized (omega (arith, mul-suc 16 x)) (omega (arith, mul-suc 16 x)) r.low;
        rows = each_set (λ n. n ≤ most_rows) t.depths x d (omega (arith, g.small)) low.rows;
      };
      under = sym (held_same t.m (cut_before most_shafts t.depths low.depths_sized x x d (omega arith) ∙ low.depths)
          (cut_before most_shafts t.heights low.heights_sized x x k (omega arith) ∙ low.heights) r.under);
      deep = omega arith;
      common = λ z. omega (arith, g.same z);
      high = rw (is, are) h;
      above = λ j q. low_zero slot_count r.slots (16 * x + k) (16 * x + j) r.sized (omega arith) r.low (omega arith);
      clean = rw is r.clean;
    }

-- t is what s has below shaft x
pub record Settled (s : Store) (x : ℕ) (t : Store) : Type 0 where
  pub same : t ≡ cut s x (16 * x)
  pub depths_sized : length s.depths ≡ most_shafts
  pub heights_sized : length s.heights ≡ most_shafts
  pub slots_sized : length s.slots ≡ slot_count

-- whatever c is given below shaft x, and accepts as s, is what s has there
abbrev pub Settles : ℕ → Store → ℕ → Rest → Type 0
Settles w s x c = (b : List ℕ) (t : Store) (l : List Bool) → Low w x t → c b t l ≡ accepted s → Settled s x t

settles_before : (f v : ℕ) → v < most_rows → (s : Store) (x : ℕ) (c : Rest) → x < most_shafts → Settles (cassette_width f) s (suc x) c → Settles (cassette_width f) s x (λ b t l. read_shaft f v x b t l c)
settles_before f v few s x c below after b t l low e =
    let r = shaft_read f v few s x b t l c below low e in
    let q = after _ r.then r.left r.low r.after in
    record {
      same = r.under ∙ ap (λ (u : Store). cut u x (16 * x)) q.same
          ∙ held_same s.m (cut_cut most_shafts s.depths q.depths_sized x (suc x) (omega arith) below) (cut_cut most_shafts s.heights q.heights_sized x (suc x) (omega arith) below)
          (cut_cut slot_count s.slots q.slots_sized (16 * x) (16 * suc x) (omega (arith, mul-suc 16 x)) (omega (arith, mul-suc 16 x)));
      depths_sized = q.depths_sized;
      heights_sized = q.heights_sized;
      slots_sized = q.slots_sized;
    }

-- the shafts below x were read, from the store t on: the bits left, and what holds of s
pub record Shafts (f v : ℕ) (s t : Store) (x : ℕ) (l : List Bool) (c : Rest) : Type 0 where
  pub left : List Bool
  pub after : c (cassettes_below s x) (cut s x (16 * x)) left ≡ accepted s
  pub begins : l ≡ shafts_bits f s x ++ left
  pub low : Low (cassette_width f) x (cut s x (16 * x))
  pub start : t ≡ cut s 0 0
  pub deep : (y : ℕ) → y < x → 0 < depth s y
  pub common : own_depths f ≡ false → (y : ℕ) → y < x → depth s y ≡ v + 1
  pub above : (y k : ℕ) → y < x → height s y ≤ k → k < most_rows → slot s y (suc k) ≡ 0
  pub clean : shafts_fault s x ≡ 0

-- one shaft more: the store after it is what s has there
module _ (f v : ℕ) (s t : Store) (x : ℕ) (below : x < most_shafts) (l : List Bool) (c : Rest) (settles : Settles (cassette_width f) s (suc x) c)
    (p : Shafts f v s t x l (λ b u q. read_shaft f v x b u q c)) (r : Column f v s x (cassettes_below s x) (cut s x (16 * x)) p.left c) where
  settled : Settled s (suc x) r.then
  settled = settles _ r.then r.left r.low r.after

  same_depth : depth r.then x ≡ depth s x
  unfolding depth_by
  same_depth = ap (λ (t : Store). depth t x) settled.same ∙ cut_below most_shafts s.depths settled.depths_sized (suc x) x below (omega arith)

  same_height : height r.then x ≡ height s x
  same_height = ap (λ (t : Store). height t x) settled.same ∙ cut_below most_shafts s.heights settled.heights_sized (suc x) x below (omega arith)

  same_slot : (j : ℕ) → j < most_rows → slot r.then x (suc j) ≡ slot s x (suc j)
  unfolding shown
  same_slot j h =
      ap (λ (t : Store). get_or t.slots (16 * x + j) 0) settled.same
      ∙ cut_below slot_count s.slots settled.slots_sized (16 * suc x) (16 * x + j) (omega (arith, mul-suc 16 x)) (omega (arith, mul-suc 16 x))

  low_enough : height s x ≤ depth s x
  low_enough = omega (arith, same_height, r.high, same_depth)

  same_row : (j : ℕ) → j < height s x → slot r.then x (suc j) ≡ slot s x (suc j)
  same_row j g = same_slot j (omega (arith, same_height, r.high, r.low.rows x))

  same_column : upward r.then x (height r.then x) ≡ upward s x (height s x)
  same_column = rw same_height (rows_agree r.then.slots s.slots x (height s x) same_row)

  clean_rows : rows_fault (cassettes_below s x) s.slots x (height s x) ≡ 0
  clean_rows = sym (faults_agree (cassettes_below s x) r.then.slots s.slots x (height s x) same_row) ∙ rw same_height at r.clean

  -- what holds of each shaft passed and of this one
  one_more : (P : ℕ → Type 0) → ((y : ℕ) → y < x → P y) → P x → (y : ℕ) → y < suc x → P y
  one_more P q here y g = elim (dec_lt y x) [ yes i ↦ q y i | no i ↦ (let e : y ≡ x = omega arith in subst⁻¹ P e here) ]

  one_shaft_lem : Shafts f v s t (suc x) l c
  unfolding columns_bits column_bits cassettes_below
  one_shaft_lem = record {
    left = r.left;
    after = cc (same_column, settled.same, r.after);
    begins = cc (p.begins, r.begins, same_depth, same_height, same_column, append_assoc (shafts_bits f s x) (shaft_bits f s x) r.left);
    low = subst (Low (cassette_width f) (suc x)) settled.same r.low;
    start = p.start;
    deep = one_more (λ y. 0 < depth s y) p.deep (omega (arith, r.deep, same_depth));
    common = λ z. one_more (λ y. depth s y ≡ v + 1) (p.common z) (sym same_depth ∙ r.common z);
    above = λ y k g. one_more (λ y. height s y ≤ k → k < most_rows → slot s y (suc k) ≡ 0) (λ y i. p.above y k i)
        (λ i j. sym (same_slot k j) ∙ r.above k (omega (arith, same_height))) y g;
    clean = shaft_passed s x p.clean (by_rows s x low_enough ∙ clean_rows);
  }

pub shafts_read : (f v : ℕ) → v < most_rows → (s t : Store) (x : ℕ) (l : List Bool) (c : Rest) → x ≤ most_shafts → Low (cassette_width f) 0 t → Settles (cassette_width f) s x c
    → read_shafts f v x [] t l c ≡ accepted s → Shafts f v s t x l c
unfolding read_shafts columns_bits cassettes_below shafts_fault
shafts_read f v few s t zero l c h low settles e =
    let q = (settles [] t l low e).same in
    record {
      left = l;
      after = cc (q, e);
      begins = refl;
      low = subst (Low (cassette_width f) 0) q low;
      start = q;
      deep = λ y g. absurd (not-suc-le-zero g);
      common = λ z y g. absurd (not-suc-le-zero g);
      above = λ y k g. absurd (not-suc-le-zero g);
      clean = refl;
    }
shafts_read f v few s t (suc x) l c h low settles e =
    let p = shafts_read f v few s t x l (λ b u q. read_shaft f v x b u q c) (omega arith) low (settles_before f v few s x c (omega arith) settles) e in
    one_shaft_lem f v s t x (omega arith) l c settles p (shaft_read f v few s x (cassettes_below s x) (cut s x (16 * x)) p.left c (omega arith) p.low p.after)
