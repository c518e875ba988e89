-- `count` meets its contract: after some words the sum is the ones of these.
use mathlib.Core.Path.{◌≡◌}
use Prim.Native.Nat.{◌*◌, ◌≤◌}
use lib.ListN.{take}
use Rattle.marks.specs.Marking.{mark_count}
use Rattle.marks.proofs.count.Given as goal

abbrev pub invariant-loop-w : goal.invariant-loop-w
invariant-loop-w l = (l.n ≡ mark_count (take l.w-index l.fn.words)) × (l.n ≤ 64 * l.w-index)
