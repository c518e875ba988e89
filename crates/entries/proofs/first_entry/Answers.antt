-- `first_entry` meets its contract: the four fields, each in its type.
use mathlib.Core.Bool.{Bool}
use mathlib.Core.List.{List}
use mathlib.Core.Path.{◌≡◌}
use Prim.Native.Nat.{ℕ, ◌<◌}
use native.Mathlib.Omega.{arith}
use Rattle.bits.specs.Fields.{field}
use Rattle.bits.proofs.Widths.{field_lt}
use Rattle.entries.specs.Entries.{entry_in}
use Rattle.entries.proofs.first_entry.Goals as goal

-- a field of four bits fits a byte
four-bits : (l : List Bool) {v : ℕ} → v ≡ field l 4 → v < 256
four-bits l e = omega (arith, e, field_lt l 4)

pub overflow_cast-result : goal.overflow_cast-result
overflow_cast-result c = omega (arith, four-bits _ c.field_there.ensures)

pub overflow_cast-result-2 : goal.overflow_cast-result-2
overflow_cast-result-2 c = omega (arith, four-bits _ c.field_there-2.ensures)

pub overflow_cast-result-3 : goal.overflow_cast-result-3
overflow_cast-result-3 c = omega (arith, four-bits _ c.field_there-3.ensures)

pub returns : goal.returns
unfolding entry_in
returns c =
    λ i. record {
      kind = c.field_there.ensures i;
      shaft = record { 0 = c.field_there-2.ensures i };
      second = record { 0 = c.field_there-3.ensures i };
      number = c.field_there-4.ensures i;
    }
