-- The rows of a shaft looked at from row 1 upward: the highest so far that shows the number.
use mathlib.Core.List.{List}
use mathlib.Core.Path.{◌≡◌, sym, ap, ◌∙◌}
use Prim.Native.Nat.{ℕ, suc, ◌+◌, ◌*◌}
use native.Mathlib.Decide.{ℕ_discrete}
use native.Mathlib.Omega.{arith}
use lib.ListN.{get_or}
use Rattle.lifts.specs.Lifting.{shown}
use Rattle.uncovering.specs.Promises.{TopRowIs}

-- one row more, which shows v
module _ (slots : List ℕ) (x c k r v : ℕ) (t : TopRowIs slots x k c r) (e : v ≡ get_or slots (16 * x + k) 0) where
  pub row_shows : v ≡ c → TopRowIs slots x (suc k) c (suc k)
  unfolding shown
  row_shows f = record { within = omega arith; shows = λ h. sym e ∙ f; none_above = λ y i j g. omega arith }

  pub row_other : (v ≡ c → ⊥) → TopRowIs slots x (suc k) c r
  unfolding shown
  row_other f = record {
    within = omega (arith, t.within);
    shows = t.shows;
    none_above = λ y i j g. elim (ℕ_discrete y (suc k)) [
      | yes u ↦ f (e ∙ ap (shown slots x) (sym u) ∙ g)
      | no u ↦ t.none_above y i (omega arith) g
    ];
  }
