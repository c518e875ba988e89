-- The parts of an image, as the code writes them: rows, the head, and shafts one after the other.
use mathlib.Core.Bool.{Bool, not}
use mathlib.Core.List.{List, append-nil}
use mathlib.Core.Path.{◌≡◌}
use Prim.Native.Nat.{ℕ, ◌+◌, ◌-◌, ◌*◌, ◌<◌}
use native.Mathlib.Numerals.{add-one}
use lib.ListN.{get_or}
use Rattle.pens.specs.declared.Pen.{Pen}
use Rattle.bits.specs.Fields.{bits, packed}
use Rattle.pens.specs.Pens.{Pushes}
use Rattle.pens.proofs.Pushed.{pushes_none, pushes_then}
use Rattle.lifts.specs.Lifting.{height_in, shown}
use Rattle.depths.specs.Depths.{depth_by}
use Rattle.store.specs.declared.Store.{Store}
use Rattle.store.specs.Slots.{depth}
use Rattle.rows.specs.Rows.{rows_up}
use Rattle.image.specs.Coding.{coded, cassette_bits}
use Rattle.image.proofs.Coding.{cassettes_append}
use Rattle.image.specs.Image.{form_width, frame_width, height_width, cassette_width, own_depths, field_if, head_bits, column_bits, columns_bits}

-- the rows of a shaft, each a field of w bits
module _ (w : ℕ) (slots : List ℕ) (x : ℕ) where
  pub no_rows : (out : List ℕ) (p : Pen) → p.full < 8 → Pushes (cassette_bits w (rows_up slots x 0)) out out p p
  unfolding packed rows_up
  no_rows out p h = pushes_none out p h

  -- one row more
  pub row_more : (k v : ℕ) {a b c : List ℕ} {p q r : Pen} → v ≡ coded w (get_or slots (16 * x + k) 0) → Pushes (cassette_bits w (rows_up slots x k)) a b p q
      → Pushes (bits w v) b c q r → Pushes (cassette_bits w (rows_up slots x (k + 1))) a c p r
  unfolding rows_up shown packed
  row_more k v i f g = rw (add-one, cassettes_append, append-nil, ← i) (pushes_then f g)

-- the head: form, m − 1, and the depth − 1 where it is there
pub head_written : (f : ℕ) (s : Store) (own : Bool) {a b c d : List ℕ} {p q r u : Pen} → own ≡ own_depths f → Pushes (bits form_width f) a b p q
    → Pushes (bits frame_width (s.m - 1)) b c q r → Pushes (field_if (not own) frame_width (depth s 0 - 1)) c d r u → Pushes (head_bits f s) a d p u
unfolding head_bits
head_written f s own o e g h = rw (← o) (pushes_then (pushes_then e g) h)

-- the shafts
module _ (f : ℕ) (depths heights slots : List ℕ) where
  pub no_shafts : (out : List ℕ) (p : Pen) → p.full < 8 → Pushes (columns_bits f depths heights slots 0) out out p p
  unfolding columns_bits
  no_shafts out p h = pushes_none out p h

  -- one shaft: its depth, its height, and then its rows
  pub shaft_written : (x v : ℕ) (own : Bool) {a b c d : List ℕ} {p q r u : Pen} → own ≡ own_depths f → v ≡ height_in heights x
      → Pushes (field_if own frame_width (depth_by depths x - 1)) a b p q → Pushes (bits height_width v) b c q r
      → Pushes (cassette_bits (cassette_width f) (rows_up slots x v)) c d r u → Pushes (column_bits f depths heights slots x) a d p u
  unfolding column_bits
  shaft_written x v own o i e g h = rw (← o, ← i) (pushes_then (pushes_then e g) h)

  -- one shaft more
  pub shaft_more : (x : ℕ) {a b c : List ℕ} {p q r : Pen} → Pushes (columns_bits f depths heights slots x) a b p q → Pushes (column_bits f depths heights slots x) b c q r
      → Pushes (columns_bits f depths heights slots (x + 1)) a c p r
  unfolding columns_bits
  shaft_more x g h = rw add-one (pushes_then g h)
