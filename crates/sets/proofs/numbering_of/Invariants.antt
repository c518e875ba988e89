-- `numbering_of` meets its contract. The invariant: the shafts passed that are in the set have their numbers, and no other number is given.
use mathlib.Core.Path.{◌≡◌}
use Prim.Native.Nat.{ℕ, ◌<◌}
use lib.ListN.{length, get_or}
use Rattle.lifts.specs.Lifting.{most_shafts}
use Rattle.sets.specs.Sets.{shafts_in, shaft_at}
use Rattle.sets.proofs.numbering_of.Given as goal

abbrev pub invariant-loop-x : goal.invariant-loop-x
invariant-loop-x l = (length l.names ≡ most_shafts) × (l.count ≡ length (shafts_in l.set l.x)) × ((i : ℕ) → i < most_shafts → get_or l.names i 0 ≡ shaft_at (shafts_in l.set l.x) i)
