-- How long an image is: 8 bits, 4 for each depth that it names, 5 for each shaft, and 8 or 12 for each cassette (document 01, "The image"; document 02, 7/13 and
-- 8/13); "an image may now have 403".
use mathlib.Core.Bool.{Bool, true, false, cond, not}
use mathlib.Core.List.{List}
use mathlib.Core.Path.{◌≡◌, refl, sym, ap, ◌∙◌}
use Prim.Native.Nat.{ℕ, zero, suc, ◌+◌, ◌*◌, ◌≤◌, ◌<◌}
use native.Mathlib.Decide.{dec_lt}
use native.Mathlib.Nat.{not-suc-le-zero, zero-mul, add-mul, mul-suc, mul-le-mul}
use native.Mathlib.Omega.{arith}
use lib.ListN.{length, drop, length-append}
use Rattle.bits.specs.Fields.{bytes_of, byte_count}
use Rattle.bits.proofs.Widths.{length_bits}
use Rattle.stacks.specs.Count.{sum}
use Rattle.lifts.specs.Lifting.{height_in}
use Rattle.store.specs.declared.Store.{Store}
use Rattle.rows.proofs.Upward.{rows_length}
use Rattle.store.specs.Slots.{SameFrame, height, cassette_count}
use Rattle.store.specs.Accept.{Accepted}
use Rattle.store.proofs.Acceptance.{accepted_shaped, accepted_most}
use Rattle.store.proofs.Counted.{heights_counted}
use Rattle.image.specs.Image.{frame_width, height_width, cassette_width, own_depths, depth_fields, field_if, head_bits, column_bits, columns_bits, shafts_bits, image_bits, length_in, image_in}
use Rattle.image.proofs.Coding.{length_cassettes}
use Rattle.image.proofs.Forms.{width_most}

-- how many bits a field of w bits takes that is there or not
abbrev pub width_if : Bool → ℕ → ℕ
width_if there w = cond there w 0

pub length_if : (there : Bool) (w v : ℕ) → length (field_if there w v) ≡ width_if there w
length_if true w v = length_bits w v
length_if false w v = refl

pub length_head : (f : ℕ) (s : Store) → length (head_bits f s) ≡ 8 + width_if (not (own_depths f)) frame_width
unfolding head_bits
length_head f s = simp (length-append, length_bits, length_if)

module _ (f : ℕ) (depths heights slots : List ℕ) where
  -- the bits of shaft x
  abbrev pub shaft_length : ℕ → ℕ
  shaft_length x = width_if (own_depths f) frame_width + height_width + height_in heights x * cassette_width f

  pub length_shaft : (x : ℕ) → length (column_bits f depths heights slots x) ≡ shaft_length x
  unfolding column_bits
  length_shaft x = simp (length-append, length_bits height_width (height_in heights x), length_if, length_cassettes, rows_length)

  length_more : (x : ℕ) → length (columns_bits f depths heights slots (suc x)) ≡ length (columns_bits f depths heights slots x) + shaft_length x
  unfolding columns_bits
  length_more x = rw (length-append, length_shaft x)

  -- the bits of a shaft below m are among those of all
  pub shafts_within : (x m : ℕ) → x < m → length (columns_bits f depths heights slots x) + length (column_bits f depths heights slots x) ≤ length (columns_bits f depths heights slots m)
  shafts_within x zero h = absurd (not-suc-le-zero h)
  shafts_within x (suc m) h =
      elim (dec_lt x m) [
        | yes k ↦ omega (arith, shafts_within x m k, length_more m)
        | no k ↦ (let e : x ≡ m = omega arith in rw e (omega (arith, length_more m, length_shaft m)))
      ]

length_shafts : (f : ℕ) (s : Store) (x : ℕ) → length (shafts_bits f s x) ≡ width_if (own_depths f) frame_width * x + height_width * x + sum x (height s) * cassette_width f
unfolding columns_bits sum
length_shafts f s zero = omega (arith, zero-mul (cassette_width f))
length_shafts f s (suc x) =
    omega (arith, length_more f s.depths s.heights s.slots x, length_shafts f s x, add-mul (sum x (height s)) (height s x) (cassette_width f), mul-suc (width_if (own_depths f) frame_width) x)

-- the depths named, in the head or before each shaft
depths_named : (own : Bool) (m : ℕ) → width_if (not own) frame_width + width_if own frame_width * m ≡ frame_width * cond own m 1
depths_named true m = omega arith
depths_named false m = omega arith

pub length_image : (f : ℕ) (s : Store) → length (image_bits f s) ≡ 8 + (frame_width * depth_fields f s.m + (height_width * s.m + sum s.m (height s) * cassette_width f))
unfolding image_bits
length_image f s =
    length-append (head_bits f s) (shafts_bits f s s.m) ∙ omega (arith, length_head f s, length_shafts f s s.m, depths_named (own_depths f) s.m)

-- an image names no more depths than it has shafts, or one
pub few_fields : (own : Bool) (m k : ℕ) → m ≤ k → 0 < k → cond own m 1 ≤ k
few_fields true m k h i = h
few_fields false m k h i = i

-- "an image may now have 403"
pub longest : (f : ℕ) (s : Store) → Accepted s → length_in f s ≤ 403
unfolding length_in
longest f s e =
    omega (arith, length_image f s, ap (λ (n : ℕ). n * cassette_width f) (heights_counted s), mul-le-mul (accepted_most s e) (width_most f), (accepted_shaped s e).shafts, few_fields (own_depths f) s.m 16 (accepted_shaped s e).shafts (omega arith))

-- so many bytes are so many
pub length_bytes : (k : ℕ) (l : List Bool) → length (bytes_of k l) ≡ k
unfolding bytes_of
length_bytes zero l = refl
length_bytes (suc k) l = ap suc (length_bytes k (drop 8 l))

pub length_written : (f : ℕ) (s : Store) → length (image_in f s) ≡ length_in f s
unfolding image_in
length_written f s = length_bytes (length_in f s) _

-- stores of one frame with equally many cassettes have equally long images in a form
pub length_frame : (f : ℕ) (s t : Store) → SameFrame s t → cassette_count s ≡ cassette_count t → length_in f s ≡ length_in f t
unfolding length_in
length_frame f s t p e =
    ap byte_count (length_image f s ∙ cc (p.shafts, heights_counted s, heights_counted t, e) ∙ sym (length_image f t))
