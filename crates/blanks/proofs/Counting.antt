-- Blanks counted row by row and shaft by shaft.
use mathlib.Core.Bool.{Bool, true, false}
use mathlib.Core.List.{List}
use mathlib.Core.Path.{◌≡◌, refl, ap}
use Prim.Native.Nat.{ℕ, suc, ◌+◌, ◌*◌, ◌≤◌}
use native.Mathlib.Omega.{arith}
use mir.Val.{bool_byte}
use lib.ListN.{get_or}
use Rattle.stacks.specs.Count.{count, one}
use Rattle.stacks.proofs.Counts.{one_most, count_append, count_last}
use Rattle.marks.specs.Cassettes.{blank, is_blank}
use Rattle.marks.proofs.Others.{blank_counts}
use Rattle.lifts.specs.Lifting.{shown}
use Rattle.rows.specs.Rows.{rows_up}
use Rattle.store.specs.declared.Store.{Store}
use Rattle.store.specs.Slots.{height, upward, cassettes_below}

byte_one : (b : Bool) → bool_byte b ≡ one b
byte_one true = refl
byte_one false = refl

pub byte_most : (b : Bool) → bool_byte b ≤ 1
byte_most b = omega (arith, byte_one b, one_most b)

-- one row more, by whether it shows a blank
pub row_more : (slots : List ℕ) (x k : ℕ) {v : ℕ} {b : Bool} → v ≡ get_or slots (16 * x + k) 0 → b ≡ is_blank v
    → count blank (rows_up slots x (suc k)) ≡ count blank (rows_up slots x k) + bool_byte b
unfolding rows_up shown
row_more slots x k {v} {b} e f =
    omega (arith, count_last blank (rows_up slots x k) (shown slots x (suc k)), ap (λ (c : ℕ). one (is_blank c)) e, blank_counts (shown slots x (suc k)), ap one f, byte_one b)

-- one shaft more, of so many rows
pub shaft_more : (s : Store) (x : ℕ) {rows : ℕ} → rows ≡ height s x → count blank (cassettes_below s (suc x)) ≡ count blank (cassettes_below s x) + count blank (upward s x rows)
unfolding cassettes_below
shaft_more s x e = rw e (count_append blank (cassettes_below s x) (upward s x (height s x)))
