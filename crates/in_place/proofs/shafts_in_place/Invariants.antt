-- `shafts_in_place` meets its contract. The invariant: the shafts passed are in place.
use mathlib.Core.Bool.{true}
use mathlib.Core.Path.{◌≡◌}
use Rattle.in_place.specs.InPlace.{all_below, shaft_in_place}
use Rattle.in_place.proofs.shafts_in_place.Given as goal

abbrev pub invariant-loop-x : goal.invariant-loop-x
invariant-loop-x l = all_below l.x (shaft_in_place l.m l.depths l.heights l.slots) ≡ true
