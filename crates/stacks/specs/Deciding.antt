-- A test that says whether something holds.
use Rattle.std.specs.Prelude.{Bool, true, false, ◌≡◌}

-- a test says whether P holds
pub record Decides (r : Bool) (P : Type 0) : Type 0 where
  pub so : r ≡ true → P
  pub not_so : r ≡ false → P → ⊥
