-- Writing an image in the form that the caller names (document 02, 8/13: "Writing tests the store, then 1, 18, 10.").
use Rattle.std.specs.Prelude.{List, ◌++◌, ◌≡◌, ℕ, zero, suc, ◌≤◌, not, ltb, length, drop, Result}
use Rattle.store.specs.declared.Store.{Store}
use Rattle.marks.specs.Cassettes.{given, first}
use Rattle.lifts.specs.Numbers.{ResultIs}
use Rattle.store.specs.Slots.{slot}
use Rattle.store.specs.Accept.{store_fault}
use Rattle.image.specs.declared.WriteFault.{WriteFault}
use Rattle.image.specs.Image.{form_fault, length_in, image_in, EqualDepths, holds}
use Rattle.image.specs.Numbers.{write_fault_number}

-- "18, a store to be written holds a cassette from 255 to 4,094 in form 0 or 1, or unequal depths in form 0": what `holds` tests, in these words
-- (`eighteen`, proofs/Forms.antt)
pub record Holdable (f : ℕ) (s : Store) : Type 0 where
  pub depths : f ≡ 0 → EqualDepths s
  pub numbers : f ≤ 1 → (x y : ℕ) → 255 ≤ slot s x y → slot s x y ≤ 4094 → ⊥

abbrev pub hold_fault : ℕ → Store → ℕ
hold_fault f s = given (not (holds f s)) 18

-- "10. The lent space is less than .. the image's length for a written image."
abbrev pub room_fault : ℕ → Store → ℕ → ℕ
room_fault f s room = given (ltb room (length_in f s)) 10

unfoldable pub write_refusal : ℕ → Store → ℕ → ℕ
write_refusal f s room = first (store_fault s) (first (form_fault f) (first (hold_fault f s) (room_fault f s room)))

-- "A refusal returns its number and writes to no lent buffer"; a written image "fills the first bytes of the lent space, the rest stay as they came,
-- and the count returned is the number of .. bytes in the image"
abbrev pub bytes_after : ℕ → ℕ → Store → List ℕ → List ℕ
bytes_after zero f s out = image_in f s ++ drop (length_in f s) out
bytes_after (suc k) f s out = out

abbrev pub count_after : ℕ → ℕ → Store → ℕ
count_after zero f s = length_in f s
count_after (suc k) f s = 0

-- Writing a store in form f into `out` gave the count, or else the only fault with the number, and left the bytes `next`.
pub record WriteIs (f : ℕ) (s : Store) (out next : List ℕ) (r : Result ℕ WriteFault) : Type 0 where
  pub answer : ResultIs write_fault_number (write_refusal f s (length out)) (λ count. count ≡ length_in f s) r
  pub bytes : next ≡ bytes_after (write_refusal f s (length out)) f s out
