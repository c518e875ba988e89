-- `same_elsewhere` meets its contract. The invariant: the shafts passed are in some set, or the same.
use mathlib.Core.Path.{◌≡◌}
use Prim.Native.Nat.{ℕ, ◌<◌}
use Rattle.store.specs.Slots.{stack}
use Rattle.sets.specs.Sets.{times_in}
use Rattle.apart.proofs.same_elsewhere.Given as goal

abbrev pub invariant-loop-x : goal.invariant-loop-x
invariant-loop-x l = (y : ℕ) → y < l.x → times_in l.row y ≡ 0 → stack l.start y ≡ stack l.goal y
