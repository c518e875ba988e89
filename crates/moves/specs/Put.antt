-- One lift made in the heights and the slots of a store that are lent apart (document 000, Definition 3.2), and its byte written.
use Rattle.std.specs.Prelude.{List, ◌≡◌, ℕ, ◌+◌, set}
use Rattle.lifts.specs.Bytes.{lift_byte}
use Rattle.store.specs.Lifts.{lifted}
use Rattle.store.specs.Slots.{held}

-- the store is what the lift makes of it, and the byte of the lift is the next of the list
pub record PutIs (heights slots : List ℕ) (a b count : ℕ) (came heights' slots' : List ℕ) (count' : ℕ) (out : List ℕ) : Type 0 where
  pub store : (m : ℕ) (depths : List ℕ) → held m depths heights' slots' ≡ lifted (held m depths heights slots) a b
  pub end : count' ≡ count + 1
  pub byte : out ≡ set came count (lift_byte a b)
