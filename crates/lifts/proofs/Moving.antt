-- Rows of shafts in a list of slots: a row by its place, what writing one row does, and that the lift as the code makes it is the definition's.
use mathlib.Core.List.{List}
use mathlib.Core.Path.{◌≡◌, refl, sym, ap, ◌∙◌}
use Prim.Native.Nat.{ℕ, zero, suc, ◌+◌, ◌-◌, ◌*◌, ◌≤◌, ◌<◌}
use native.Mathlib.Omega.{arith}
use lib.ListN.{length, get_or, set, length-set}
use lib.Seq.{get_or-set_same, get_or-set_other}
use Rattle.lifts.specs.declared.Carried.{Carried}
use Rattle.lifts.specs.Lifting.{most_shafts, most_rows, slot_count, height_in, shown, placed_at, heights_after, slots_after}
use Rattle.lifts.specs.Carried.{CanCarry, CarriedIs}

-- row y of shaft x by its place in the slots
pub shown_place : (l : List ℕ) (x y : ℕ) → 0 < y → shown l x y ≡ get_or l (16 * x + (y - 1)) 0
unfolding shown
shown_place l x zero h = absurd (omega arith)
shown_place l x (suc k) h = ap (λ (n : ℕ). get_or l (16 * x + n) 0) (omega arith)

placed_place : (l : List ℕ) (x y c : ℕ) → 0 < y → placed_at l x y c ≡ set l (16 * x + (y - 1)) c
unfolding placed_at
placed_place l x zero c h = absurd (omega arith)
placed_place l x (suc k) c h = ap (λ (n : ℕ). set l (16 * x + n) c) (omega arith)

pub placed_length : (l : List ℕ) (x n c : ℕ) → length (placed_at l x n c) ≡ length l
unfolding placed_at
placed_length l x zero c = refl
placed_length l x (suc k) c = length-set l (16 * x + k) c

-- the row written shows what was written
pub placed_same : (l : List ℕ) (x n c : ℕ) → length l ≡ slot_count → x < most_shafts → 0 < n → n ≤ most_rows → shown (placed_at l x n c) x n ≡ c
unfolding placed_at shown
placed_same l x zero c e i h j = absurd (omega arith)
placed_same l x (suc k) c e i h j = get_or-set_same l (16 * x + k) c 0 (omega arith)

-- the others show what they showed
pub placed_other : (l : List ℕ) (x n c y k : ℕ) → n ≤ most_rows → k ≤ most_rows → ((y ≡ x) × (k ≡ n) → ⊥) → shown (placed_at l x n c) y k ≡ shown l y k
unfolding placed_at shown
placed_other l x n c y zero i j d = refl
placed_other l x zero c y (suc k) i j d = refl
placed_other l x (suc n) c y (suc k) i j d = get_or-set_other l (16 * x + n) (16 * y + k) c 0 λ e. d (omega arith, omega arith)

-- the slots after a lift, by their places
pub slots_after_lem : (heights slots : List ℕ) (a b : ℕ) → 0 < height_in heights a
    → slots_after heights slots a b ≡ set (set slots (16 * a + (height_in heights a - 1)) 0) (16 * b + height_in heights b) (shown slots a (height_in heights a))
unfolding placed_at
slots_after_lem heights slots a b h =
    ap (λ (l : List ℕ). set l (16 * b + height_in heights b) (shown slots a (height_in heights a))) (placed_place slots a (height_in heights a) 0 h)

-- what the code has done is the lift
pub carried : (heights slots : List ℕ) (a b : ℕ) (r : Carried) → CanCarry heights a b → r.cassette ≡ get_or slots (16 * a + (height_in heights a - 1)) 0
    → r.row.0 ≡ height_in heights b + 1
    → CarriedIs heights slots a b (heights_after heights a b) (set (set slots (16 * a + (height_in heights a - 1)) 0) (16 * b + height_in heights b) r.cassette) r
carried heights slots a b r q c k =
    let e : r.cassette ≡ shown slots a (height_in heights a) = c ∙ sym (shown_place slots a (height_in heights a) q.taken) in
    record {
      heights_are = refl;
      slots_are = ap (set (set slots (16 * a + (height_in heights a - 1)) 0) (16 * b + height_in heights b)) e ∙ sym (slots_after_lem heights slots a b q.taken);
      cassette = e;
      row = omega arith;
    }
