-- What the next field, the head and the end of an image promise, by the definitions: each step goes from one bit position to another, or ends the reading by a fault.
use Rattle.std.specs.Prelude.{Bool, true, cond, not, List, ◌≡◌, ℕ, ◌+◌, ◌^◌, ◌≤◌, ◌<◌, drop, Result, Ok, Err, IfOk}
use Rattle.lifts.specs.Lifting.{most_shafts, most_rows}
use Rattle.store.specs.declared.Store.{Store}
use Rattle.store.specs.Slots.{empty_store}
use Rattle.bits.specs.Fields.{field, bits_of}
use Rattle.image.specs.declared.ReadFault.{ReadFault}
use Rattle.image.specs.Image.{form_width, frame_width, own_depths, form_in}
use Rattle.image.specs.Numbers.{read_fault_number}
use Rattle.image.specs.Reading.{Reading, no_depths, refused, next_if, finish, read_body, read_image}
use Rattle.fields.specs.declared.Head.{Head}

-- the bits from a position on
abbrev pub left : List ℕ → ℕ → List Bool
left bytes at = drop at (bits_of bytes)

-- a reading after a step: it goes on with what the step gave, or the fault ends it
abbrev pub after : {A : Type 0} → Result A ReadFault → (A → Reading) → Reading
after (Ok a) c = c a
after (Err f) c = refused (read_fault_number f)

-- A field of n bits from one position to another has the value v, which is u.
pub record Passed (v n at at' u : ℕ) : Type 0 where
  pub value : u ≡ v
  pub place : at' ≡ at + n

-- The next field of n bits, where it is there, or else the value v, from one position to another: what goes by it is read from there on.
pub record FieldIfIs (bytes : List ℕ) (there : Bool) (n v at at' : ℕ) (r : Result ℕ ReadFault) : Type 0 where
  pub found : IfOk r (Passed (cond there (field (left bytes at) n) v) (cond there n 0) at at')
  pub same : (c : ℕ → List Bool → Reading) → next_if there n v (left bytes at) c ≡ after r (λ u. c u (left bytes at'))
  pub small : IfOk r (λ u. u < 2 ^ n)
  pub within : at' ≤ at + n

-- The next field of n bits.
abbrev pub FieldIs : List ℕ → ℕ → ℕ → ℕ → Result ℕ ReadFault → Type 0
FieldIs bytes n at at' r = FieldIfIs bytes true n 0 at at' r

-- The head has what its fields say: the form, m − 1, and in form 0 the depth − 1, else 0.
pub record HeadFound (bytes : List ℕ) (r : Head) : Type 0 where
  pub form : r.form ≡ form_in bytes
  pub shafts : r.m ≡ field (left bytes form_width) frame_width + 1
  pub depth : r.depth ≡ cond (not (own_depths r.form)) (field (left bytes (form_width + frame_width)) frame_width) 0

-- how far the numbers of a head go
pub record Few (r : Head) : Type 0 where
  pub shafts : r.m ≤ most_shafts
  pub rows : r.depth < most_rows
  pub within : r.at ≤ 12

-- The fields before the first shaft were read.
pub record HeadIs (bytes : List ℕ) (r : Result Head ReadFault) : Type 0 where
  pub found : IfOk r (HeadFound bytes)
  pub same : read_image bytes ≡ after r (λ h. read_body h.form h.depth (empty_store h.m no_depths) (left bytes h.at))
  pub few : IfOk r Few

-- the end of a reading: its store, or the fault
abbrev pub ended : Result Unit ReadFault → Store → Reading
ended r s = after r (λ a. record { store = s; number = 0 })

-- The end of an image was read.
pub record EndIs (bytes : List ℕ) (at : ℕ) (r : Result Unit ReadFault) : Type 0 where
  pub same : (before : List ℕ) (s : Store) → finish before s (left bytes at) ≡ ended r s
