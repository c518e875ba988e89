-- Packed fields (document 01, "The image": "Fields are packed most significant bit first, with no gaps"), for every width.
use Rattle.std.specs.Prelude.{Bool, true, false, cond, Option, Some, None, List, [], ◌∷◌, ◌++◌, ℕ, zero, suc, ◌+◌, ◌*◌, ◌/◌, ◌%◌, length, get_or, drop, leb, eqb}

abbrev pub digit : Bool → ℕ
digit false = 0
digit true = 1

-- the least significant bit of a number
abbrev pub odd : ℕ → Bool
odd v = eqb (v % 2) 1

-- the w low bits of v, the most significant first
unfoldable pub bits : ℕ → ℕ → List Bool
bits zero v = []
bits (suc w) v = bits w (v / 2) ++ (odd v ∷ [])

-- the number that the first w bits of a list are; past its end the bits count as 0
unfoldable pub field : List Bool → ℕ → ℕ
field l zero = 0
field l (suc w) = field l w * 2 + digit (get_or l w false)

-- fields of one width, one after the other
unfoldable pub packed : ℕ → List ℕ → List Bool
unfolding bits
packed w [] = []
packed w (v ∷ vs) = bits w v ++ packed w vs

-- the bits of a list of bytes
unfoldable pub bits_of : List ℕ → List Bool
unfolding bits packed
bits_of bs = packed 8 bs

-- the first k bytes of a list of bits; a last byte that is not full ends in zero bits
unfoldable pub bytes_of : ℕ → List Bool → List ℕ
unfolding field
bytes_of zero l = []
bytes_of (suc k) l = field l 8 ∷ bytes_of k (drop 8 l)

-- how many bytes n bits take
abbrev pub byte_count : ℕ → ℕ
byte_count n = (n + 7) / 8

-- the next field of w bits: its value, or none where the bits end before it does
unfoldable pub next_field : List Bool → ℕ → Option ℕ
unfolding field
next_field l w = cond (leb w (length l)) (Some (field l w)) None
