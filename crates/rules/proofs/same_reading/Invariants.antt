-- `same_reading` meets its contract. The invariant: the places passed read the same.
use mathlib.Core.Path.{◌≡◌}
use Prim.Native.Nat.{ℕ, ◌<◌}
use lib.ListN.{get_or}
use Rattle.reach.specs.Rules.{two_shaft_reading}
use Rattle.rules.proofs.same_reading.Given as goal

abbrev pub invariant-loop-p : goal.invariant-loop-p
invariant-loop-p l = (k : ℕ) → k < l.p → get_or (two_shaft_reading l.s) k 0 ≡ get_or (two_shaft_reading l.t) k 0
