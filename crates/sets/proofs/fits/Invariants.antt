-- `fits` meets its contract. The invariant: no shaft passed, from m on, is in the set.
use mathlib.Core.Bool.{false}
use mathlib.Core.Path.{◌≡◌}
use Prim.Native.Nat.{ℕ, ◌≤◌, ◌<◌}
use Rattle.sets.specs.Sets.{has}
use Rattle.sets.proofs.fits.Given as goal

abbrev pub invariant-loop-x : goal.invariant-loop-x
invariant-loop-x l = (y : ℕ) → l.m ≤ y → y < l.x → has l.set y ≡ false
