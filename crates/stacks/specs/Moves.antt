-- Lifts by their two shafts, and one lift many times over.
use Rattle.std.specs.Prelude.{List, ℕ, replicate}
use Rattle.stacks.specs.Run.{Lift}

abbrev pub lift : ℕ → ℕ → Lift
lift a b = record { left = a; entered = b }

-- k lifts from a to b
abbrev pub shift : ℕ → ℕ → ℕ → List Lift
shift k a b = replicate k (lift a b)
