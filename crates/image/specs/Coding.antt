-- How a cassette's number stands in a field of w bits (document 02, 8/13): "in forms 0 and 1 the byte 255 is read as the blank, while in form 2 it is an ordinary
-- cassette". The largest value of a field stands for the blank, which is 255 in 8 bits and the blank's own number in 12; every other stands for itself.
use Rattle.std.specs.Prelude.{Bool, cond, ◌||◌, List, map, ℕ, ◌-◌, ◌^◌, ltb, eqb}
use Rattle.bits.specs.Fields.{packed}
use Rattle.marks.specs.Cassettes.{blank, is_blank}

-- the value that stands for the blank
abbrev pub blank_value : ℕ → ℕ
blank_value w = 2 ^ w - 1

-- the number that a value stands for
unfoldable pub meant : ℕ → ℕ → ℕ
meant w v = cond (eqb v (blank_value w)) blank v

-- the value that stands for a number
unfoldable pub coded : ℕ → ℕ → ℕ
coded w c = cond (is_blank c) (blank_value w) c

-- there is a value of w bits that stands for the number: it is the blank, or below the value that is the blank's
unfoldable pub codable : ℕ → ℕ → Bool
codable w c = is_blank c || ltb c (blank_value w)

-- cassettes one after the other, each as a field of w bits
abbrev pub cassette_bits : ℕ → List ℕ → List Bool
cassette_bits w l = packed w (map (coded w) l)
