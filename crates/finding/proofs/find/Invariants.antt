-- `find` meets its contract.
use Prim.Native.Nat.{ℕ, ◌<◌}
use Rattle.finding.proofs.FindLaws.{NotAt}
use Rattle.finding.proofs.find.Given as goal

abbrev pub invariant-loop-p : goal.invariant-loop-p
invariant-loop-p l = (q : ℕ) → q < l.p → NotAt l.f l.work.heights l.work.slots l.done l.v q
