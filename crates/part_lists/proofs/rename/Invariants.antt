-- `rename` meets its contract. The invariant: the bytes passed are renamed.
use mathlib.Core.Path.{◌≡◌}
use Rattle.part_lists.specs.PartLists.{renamed}
use Rattle.part_lists.proofs.Renaming.{renamed_to}
use Rattle.part_lists.proofs.rename.Given as goal

abbrev pub invariant-loop-b : goal.invariant-loop-b
invariant-loop-b l = l.list ≡ renamed_to (renamed l.names) l.initial.list l.b-index
