-- What the C calls promise that hand a store back as an image (document 01, "The image": "A replay called from C writes the store reached as an image, always as long as
-- the one given; 10 comes there before any lift is tried"; document 02, 8/13: it "writes in the form of the image given"). A log that is followed (9/13) is answered so too.
use Rattle.std.specs.Prelude.{List, ◌≡◌, ℕ, ltb, length}
use Rattle.store.specs.declared.Store.{Store}
use Rattle.store.specs.Accept.{Accepted}
use Rattle.marks.specs.Cassettes.{given, first}
use Rattle.moves.specs.Written.{written}
use Rattle.image.specs.Image.{image_in, form_in}
use Rattle.image.specs.Numbers.{read_fault_number}
use Rattle.marks.specs.Taking.{result_number}
use Rattle.calls.specs.declared.Lent.{Lent}
use Rattle.calls.specs.declared.LentFault.{LentFault}
use Rattle.calls.specs.Shared.{answer_of, store_in, read_fault}

-- the faults of reading, and then 10, where less is lent than the image given has: "always as long as the one given"
abbrev pub back_fault : List ℕ → ℕ → ℕ
back_fault a room = first (read_fault a) (given (ltb room (length a)) 10)

-- the number of each of them
abbrev pub lent_number : LentFault → ℕ
lent_number (LentFault.Unread f) = read_fault_number f
lent_number LentFault.NoRoom = 10

-- The image a was read for such a call: the answer has the number that refuses it, and the store is accepted as a value where nothing does.
pub record LentIs (a : List ℕ) (room : ℕ) (r : Lent) : Type 0 where
  pub number : result_number lent_number r.answer ≡ back_fault a room
  pub store : r.store ≡ store_in a
  pub accepted : result_number lent_number r.answer ≡ 0 → Accepted r.store

-- The store t was handed back in the form of the image a, with a count and a number, or nothing was written.
pub record HandsBack (a came : List ℕ) (t : Store) (count number r : ℕ) (out : List ℕ) : Type 0 where
  pub refused : (back_fault a (length came) ≡ 0 → ⊥) → (r ≡ back_fault a (length came)) × (out ≡ came)
  pub done : back_fault a (length came) ≡ 0 → (r ≡ answer_of count number) × (out ≡ written came 0 (image_in (form_in a) t))
