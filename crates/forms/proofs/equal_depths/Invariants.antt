-- `equal_depths` meets its contract. The invariant: the depths passed are that of the first shaft.
use mathlib.Core.Path.{◌≡◌}
use Prim.Native.Nat.{ℕ, ◌<◌}
use Rattle.depths.specs.Depths.{depth_by}
use Rattle.forms.proofs.equal_depths.Given as goal

abbrev pub invariant-loop-x : goal.invariant-loop-x
invariant-loop-x l = (y : ℕ) → y < l.x → depth_by l.depths y ≡ depth_by l.depths 0
