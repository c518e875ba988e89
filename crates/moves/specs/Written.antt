-- Lists of lifts as bytes in lent space (document 01, "Which comes first": "fills the first bytes of the lent space, the rest stay as they came").
use Rattle.std.specs.Prelude.{List, ◌++◌, ◌≡◌, ℕ, ◌+◌, length, take, drop}
use Rattle.store.specs.declared.Store.{Store}
use Rattle.store.specs.Lists.{Leads}

-- the bytes that came, with a list written from a place on
unfoldable pub written : List ℕ → ℕ → List ℕ → List ℕ
written came at l = take at came ++ (l ++ drop (at + length l) came)

-- A part of a plan: some list leads from s to t, it was written after the bytes before it, and the count grew by its length.
pub record Steps (s : Store) (at : ℕ) (came : List ℕ) (t : Store) (at' : ℕ) (out : List ℕ) : Type 0 where
  pub lifts : List ℕ
  pub leads : Leads s lifts t
  pub count : at' ≡ at + length lifts
  pub bytes : out ≡ written came at lifts
