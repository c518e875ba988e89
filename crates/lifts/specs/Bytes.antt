-- A lift as one byte (document 01, "The list").
use Rattle.std.specs.Prelude.{ℕ, ◌+◌, ◌*◌, ◌/◌, ◌%◌}

-- "the shaft left in the high four bits, the shaft entered in the low four"
abbrev pub left : ℕ → ℕ
left b = b / 16

abbrev pub entered : ℕ → ℕ
entered b = b % 16

abbrev pub lift_byte : ℕ → ℕ → ℕ
lift_byte x y = 16 * x + y
