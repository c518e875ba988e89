-- What making a list promises, for two stores that can be compared and a goal that can be reached.
use Rattle.std.specs.Prelude.{List, ◌≡◌, ℕ, ◌≤◌}
use Rattle.store.specs.declared.Store.{Store}
use Rattle.store.specs.Slots.{list_space}
use Rattle.moves.specs.Written.{Steps}

-- A list was made: it leads from start to goal within the list space, stands in the first bytes, and its length is the count; it is empty where start and
-- goal are the same.
pub record MadeIs (s t : Store) (came : List ℕ) (count : ℕ) (out : List ℕ) : Type 0 where
  pub steps : Steps s 0 came t count out
  pub short : count ≤ list_space s
  pub nothing : s ≡ t → count ≡ 0
