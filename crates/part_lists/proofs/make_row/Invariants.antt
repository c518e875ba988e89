-- `make_row` meets its contract. The invariant: the lifts of the sets passed are written.
use Rattle.part_lists.proofs.RowLists.{SoFar}
use Rattle.part_lists.proofs.make_row.Given as goal

abbrev pub invariant-loop-some : goal.invariant-loop-some
invariant-loop-some l = record { made : SoFar l.start l.goal l.row l.initial.out l.some-index l.count l.out }
