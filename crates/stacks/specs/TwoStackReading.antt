-- The reading of two shafts.
use mathlib.Core.List.{List, reverse_aux}
use Rattle.std.specs.Prelude.{ℕ}
use Rattle.stacks.specs.Run.{Stacks}

-- shaft 0 from the bottom up, then shaft 1 from the top down
unfoldable pub two_stack_reading : Stacks → List ℕ
two_stack_reading S = reverse_aux (S 0) (S 1)
