-- Rows that agree from the bottom: of one shaft, where the comparing stopped, and of the shafts that are compared already.
use mathlib.Core.List.{List, []}
use mathlib.Core.Path.{◌≡◌}
use Prim.Native.Nat.{ℕ, ◌+◌, ◌*◌, ◌≤◌, ◌<◌}
use native.Mathlib.Decide.{dec_lt}
use native.Mathlib.Omega.{arith}
use lib.ListN.{length, get_or}
use Rattle.store.proofs.Rows.{same_rows, rows_same}
use Rattle.store.specs.Slots.{held}
use Rattle.rows.specs.Rows.{rows_down}
use Rattle.rooms.specs.declared.Frame.{Frame}
use Rattle.lifts.specs.Lifting.{height_in, shown}
use Rattle.agreeing.specs.Agreeing.{AgreeIs, AgreeingIs}

-- the first k slots of shaft x hold the same
abbrev pub SameBelow : List ℕ → List ℕ → ℕ → ℕ → Type 0
SameBelow a b x k = (j : ℕ) → j < k → get_or a (16 * x + j) 0 ≡ get_or b (16 * x + j) 0

module _ (a b : List ℕ) (x : ℕ) where
  rows_agree : (k : ℕ) → SameBelow a b x k → rows_down a x k ≡ rows_down b x k
  unfolding shown
  rows_agree k e = same_rows (held 0 [] [] a) (held 0 [] [] b) x k e

  agree_row : (n k : ℕ) → rows_down a x n ≡ rows_down b x n → k < n → get_or a (16 * x + k) 0 ≡ get_or b (16 * x + k) 0
  unfolding shown
  agree_row n k e h = rows_same (held 0 [] [] a) (held 0 [] [] b) x n k e h

  -- stopped at a row that differs
  pub agree_stopped : (most k : ℕ) → k < most → SameBelow a b x k → (get_or a (16 * x + k) 0 ≡ get_or b (16 * x + k) 0 → ⊥) → AgreeIs a b x most k
  agree_stopped most k h e n =
      record {
        within = omega arith;
        same = rows_agree k e;
        longest = λ j g r. elim (dec_lt k j) [ yes i ↦ absurd (n (agree_row j k r i)) | no i ↦ omega arith ];
      }

  -- not stopped
  pub agree_all : (most : ℕ) → SameBelow a b x most → AgreeIs a b x most most
  agree_all most e = record { within = omega arith; same = rows_agree most e; longest = λ j i r. omega arith }

-- r rows of shaft x agree, of those that both stores have
pub record RowsTo (heights slots goal-heights goal-slots : List ℕ) (x r : ℕ) : Type 0 where
  pub now : r ≤ height_in heights x
  pub goal : r ≤ height_in goal-heights x
  pub same : rows_down slots x r ≡ rows_down goal-slots x r

-- and no more of them
pub record RowsIs (heights slots goal-heights goal-slots : List ℕ) (x r : ℕ) : Type 0 where
  pub rows : RowsTo heights slots goal-heights goal-slots x r
  pub longest : (k : ℕ) → k ≤ height_in heights x → k ≤ height_in goal-heights x → rows_down slots x k ≡ rows_down goal-slots x k → k ≤ r

-- the shafts below x are compared, and the others hold none yet
pub record ComparedTo (heights slots goal-heights goal-slots done : List ℕ) (x : ℕ) : Type 0 where
  pub sized : length done ≡ 16
  pub compared : (y : ℕ) → y < x → RowsIs heights slots goal-heights goal-slots y (height_in done y)
  pub others : (y : ℕ) → x ≤ y → height_in done y ≡ 0

module _ (heights slots goal-heights goal-slots : List ℕ) where
  no_rows : (x : ℕ) → RowsTo heights slots goal-heights goal-slots x 0
  no_rows x = record { now = omega arith; goal = omega arith; same = rows_agree slots goal-slots x 0 λ j h. absurd (omega arith) }

  -- every shaft is compared
  pub all_compared : (f : Frame) (done : List ℕ) (x : ℕ) → f.m ≤ x → ComparedTo heights slots goal-heights goal-slots done x
      → AgreeingIs f heights slots goal-heights goal-slots done
  all_compared f done x h c =
      let rows : (y : ℕ) → RowsTo heights slots goal-heights goal-slots y (height_in done y) = λ y. elim (dec_lt y x) [
        | yes z ↦ (c.compared y z).rows
        | no z ↦ rw (c.others y (omega arith)) (no_rows y)
      ] in
      record {
        sized = c.sized;
        now = λ y. (rows y).now;
        goal = λ y. (rows y).goal;
        same = λ y. (rows y).same;
        longest = λ y k u i j e. (c.compared y (omega (arith, u))).longest k i j e;
      }
