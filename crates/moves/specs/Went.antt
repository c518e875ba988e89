-- What a function that makes lifts has done to the store and the list.
use Rattle.std.specs.Prelude.{List, ◌≡◌, ℕ, ◌+◌, ◌≤◌, length}
use Rattle.store.specs.declared.Store.{Store}
use Rattle.store.specs.Sound.{Shaped}
use Rattle.moves.specs.Written.{Steps}

-- Some lifts, at most n of them, led from s to t and were written from `at` on.
pub record Went (s : Store) (at : ℕ) (came : List ℕ) (n : ℕ) (t : Store) (at' : ℕ) (out : List ℕ) : Type 0 where
  pub steps : Steps s at came t at' out
  pub shaped : Shaped t
  pub room : length out ≡ length came
  pub few : at' ≤ at + n
