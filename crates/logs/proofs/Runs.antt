-- The entries of a log: one for each three bytes, in their order. And the byte of a lift in it.
use mathlib.Core.Bool.{Bool}
use mathlib.Core.List.{List, [], ◌∷◌}
use mathlib.Core.Path.{◌≡◌, refl, sym, ap, ap₂, ◌∙◌}
use Prim.Native.Nat.{ℕ, zero, suc, ◌-◌, ◌/◌, ◌≤◌, ◌<◌}
use native.Mathlib.Omega.{arith}
use lib.ListN.{length, take, drop, length-drop}
use lib.Seq.{take_all, drop_at, drop-drop}
use Rattle.bits.specs.Fields.{bits, packed, bits_of}
use Rattle.bits.proofs.Widths.{length_bits}
use Rattle.lifts.specs.Bytes.{left, entered, lift_byte}
use Rattle.entries.specs.declared.Entry.{Entry}
use Rattle.entries.specs.Entries.{entry_in}
use Rattle.logs.specs.Following.{entries_in, entries_of}

-- the bytes after the first n, as a slice has them
pub slice_after : (n : ℕ) (log : List ℕ) → take (length log - n) (drop n log) ≡ drop n log
slice_after n log = take_all (length log - n) (drop n log) (simp length-drop (omega arith))

-- without their first byte bytes are without their first eight bits
bits_rest : (log : List ℕ) → bits_of (drop 1 log) ≡ drop 8 (bits_of log)
unfolding bits_of packed
bits_rest [] = refl
bits_rest (b ∷ log) = sym (drop_at (bits 8 b) (packed 8 log) 8 (length_bits 8 b))

-- so it is with an entry
pub bits_after : (log : List ℕ) → bits_of (drop 3 log) ≡ drop 24 (bits_of log)
bits_after log =
    ap bits_of (sym (drop-drop 1 2 log)) ∙ bits_rest (drop 2 log)
    ∙ ap (drop 8) (ap bits_of (sym (drop-drop 1 1 log)) ∙ bits_rest (drop 1 log) ∙ ap (drop 8) (bits_rest log) ∙ drop-drop 8 8 (bits_of log))
    ∙ drop-drop 8 16 (bits_of log)

pub entries_none : (log : List ℕ) → length log < 3 → entries_of log ≡ []
unfolding entries_of entries_in
entries_none log h = let z : length log / 3 ≡ 0 = omega arith in rw z

pub entries_next : (log : List ℕ) → 3 ≤ length log → entries_of log ≡ entry_in (bits_of log) ∷ entries_of (drop 3 log)
unfolding entries_of entries_in
entries_next log h =
    let n : length log / 3 ≡ suc ((length log - 3) / 3) = omega arith in
    ap (λ (k : ℕ). entries_in k (bits_of log)) n
    ∙ ap (λ (es : List Entry). entry_in (bits_of log) ∷ es) (ap₂ entries_in (ap (λ (k : ℕ). k / 3) (sym (length-drop 3 log))) (sym (bits_after log)))

pub length_entries : (log : List ℕ) → length (entries_of log) ≡ length log / 3
unfolding entries_of entries_in
length_entries log = go (length log / 3) (bits_of log)
  where
    go : (k : ℕ) (l : List Bool) → length (entries_in k l) ≡ k
    go zero l = refl
    go (suc k) l = ap suc (go k (drop 24 l))

-- the shafts of a lift's byte
pub byte_shafts : (a b : ℕ) → b < 16 → (left (lift_byte a b) ≡ a) × (entered (lift_byte a b) ≡ b)
byte_shafts a b h = (omega arith, omega arith)
