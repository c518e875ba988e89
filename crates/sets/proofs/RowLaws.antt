-- Laws of rows of sets: of how many sets a shaft is.
use mathlib.Core.Bool.{Bool, true, false, cond}
use mathlib.Core.List.{List, [], ◌∷◌, ◌++◌}
use mathlib.Core.Path.{◌≡◌, refl, ap, ◌∙◌}
use Prim.Native.Nat.{ℕ, suc, ◌+◌, ◌≤◌, ◌<◌}
use native.Mathlib.Omega.{arith}
use mir.Val.{bool_byte}
use lib.ListN.{length, get_or, take}
use lib.Seq.{take-suc}
use Rattle.std.proofs.lemmas.List.Recursion.{is_count_by}
use Rattle.std.specs.List.{count_by}
use Rattle.stacks.specs.Count.{one}
use Rattle.lifts.specs.Lifting.{most_shafts}
use Rattle.sets.specs.Sets.{has, times_in}
use Rattle.sets.proofs.SetLaws.{none_past}

-- a test as a number
pub bit_is : (b : Bool) → bool_byte b ≡ one b
bit_is true = refl
bit_is false = refl

-- two rows one after the other
pub times_append : (row more : List ℕ) (x : ℕ) → times_in (row ++ more) x ≡ times_in row x + times_in more x
unfolding times_in
times_append [] more x = omega arith
times_append (g ∷ row) more x = omega (arith, times_append row more x)

-- of how many sets a shaft is: so many of the row have it
pub times_counted : (row : List ℕ) (x : ℕ) → times_in row x ≡ count_by (λ set. has set x) row
unfolding times_in
times_counted row x = is_count_by (λ sets. times_in sets x) (λ set. has set x) refl (λ set sets. added (has set x) (times_in sets x)) row
  where
    added : (b : Bool) (n : ℕ) → one b + n ≡ cond b (1 + n) n
    added true n = refl
    added false n = omega arith

-- one set more
pub times_more : (row : List ℕ) (x i : ℕ) → i < length row → times_in (take (suc i) row) x ≡ times_in (take i row) x + one (has (get_or row i 0) x)
unfolding times_in
times_more row x i h = ap (λ (l : List ℕ). times_in l x) (take-suc row i 0 h) ∙ omega (arith, times_append (take i row) (get_or row i 0 ∷ []) x)

-- no set of sixteen bits has a shaft past the sixteenth
pub none_times : (row : List ℕ) (x : ℕ) → ((i : ℕ) → i < length row → get_or row i 0 < 65536) → most_shafts ≤ x → times_in row x ≡ 0
unfolding times_in
none_times [] x f h = refl
none_times (g ∷ row) x f h = omega (arith, ap one (none_past g x (f 0 (omega arith)) h), none_times row x (λ i j. f (suc i) (omega arith)) h)
