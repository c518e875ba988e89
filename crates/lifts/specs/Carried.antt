-- What a lift made in place asks for, and what it makes.
use Rattle.std.specs.Prelude.{List, ◌≡◌, ℕ, suc, ◌≤◌, ◌<◌}
use Rattle.lifts.specs.declared.Carried.{Carried}
use Rattle.lifts.specs.Lifting.{most_shafts, most_rows, height_in, shown, heights_after, slots_after}

-- the arrays have the top of a and the slot above the top of b
pub record CanCarry (heights : List ℕ) (a b : ℕ) : Type 0 where
  pub left_below : a < most_shafts
  pub entered_below : b < most_shafts
  pub taken : 0 < height_in heights a
  pub taken_row : height_in heights a ≤ most_rows
  pub room : height_in heights b < most_rows

-- the heights and the slots are what the lift makes of them; it carried the top cassette of a to the row above the top of b
pub record CarriedIs (heights slots : List ℕ) (a b : ℕ) (heights' slots' : List ℕ) (r : Carried) : Type 0 where
  pub heights_are : heights' ≡ heights_after heights a b
  pub slots_are : slots' ≡ slots_after heights slots a b
  pub cassette : r.cassette ≡ shown slots a (height_in heights a)
  pub row : r.row.0 ≡ suc (height_in heights b)
