-- Cassette numbers (document 01, "The store"), and the fault of one more cassette ("Refused because of the input"). 0 is no fault.
use Rattle.std.specs.Prelude.{Bool, true, false, not, ◌&&◌, List, ◌≡◌, ℕ, zero, suc, ◌≤◌, ltb, eqb}
use Rattle.stacks.specs.Count.{count}

-- "0 marks an empty slot and nothing else.", and "Cassettes run to 4,094 and 4,095 is the blank" (request 8/13): what a slot shows is below this
abbrev pub numbers : ℕ
numbers = 4096

-- the blank "may stand any number of times" (request 5/13)
abbrev pub blank : ℕ
blank = 4095

unfoldable pub is_blank : ℕ → Bool
is_blank c = eqb c blank

-- a cassette's number, a blank's included
abbrev pub is_cassette : ℕ → Bool
is_cassette c = ltb 0 c && ltb c numbers

-- no number but the blank stands twice in a list
abbrev pub Once : List ℕ → Type 0
Once l = (c : ℕ) → is_blank c ≡ false → count c l ≤ 1

-- the number k where the test holds, else none
abbrev pub given : Bool → ℕ → ℕ
given true k = k
given false k = 0

-- the first of two faults that is one
abbrev pub first : ℕ → ℕ → ℕ
first zero k = k
first (suc j) k = suc j

-- "4. A cassette number 0.", which "also covers a number above 4,095 in a store value" (request 8/13), and then 5, a number that stood earlier: it "no longer
-- applies to" the blank (request 5/13)
unfoldable pub cassette_fault : List ℕ → ℕ → ℕ
cassette_fault before c = first (given (not (is_cassette c)) 4) (given (not (is_blank c) && ltb 0 (count c before)) 5)
