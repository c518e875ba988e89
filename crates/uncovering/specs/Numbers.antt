-- The number and the lifts of an order's answer (document 02, 1/13): "An order that fails gets its number and 0 lifts in its own record (an answered one
-- has number 0)".
use Rattle.std.specs.Prelude.{ℕ, Result, Ok, Err}
use Rattle.uncovering.specs.declared.Hidden.{Hidden}
use Rattle.uncovering.specs.declared.Hidden.TheVariants.{Absent, Buried}

-- "16, the cassette isn't in the store (0 included), tested first; 17, exactly if no list of legal lifts uncovers it."
abbrev pub uncovering_number : Result ℕ Hidden → ℕ
uncovering_number (Ok k) = 0
uncovering_number (Err Absent) = 16
uncovering_number (Err Buried) = 17

abbrev pub uncovering_lifts : Result ℕ Hidden → ℕ
uncovering_lifts (Ok k) = k
uncovering_lifts (Err h) = 0
