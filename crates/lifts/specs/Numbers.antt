-- The number of document 01 ("Refused because of the input", "Refused because of the state") for each refusal of a lift; 0 where it is allowed.
-- No two cases of one answer have the same number, and the promises say so each time: an answer is the only one with its number.
use Rattle.std.specs.Prelude.{◌≡◌, ℕ, Result, MatchResult}
use Rattle.marks.specs.Taking.{result_number}
use Rattle.lifts.specs.declared.Refusal.{Refusal}
use Rattle.lifts.specs.declared.Refusal.TheVariants.{Shafts, Empty, Full}

-- The answer a is the only one with the number k.
pub record Only {A : Type 0} (number : A → ℕ) (k : ℕ) (a : A) : Type 0 where
  pub has : number a ≡ k
  pub alone : (b : A) → number b ≡ k → b ≡ a

-- The error e is the only one with the number k, and none has the number 0.
pub record OnlyError {E : Type 0} (number : E → ℕ) (k : ℕ) (e : E) : Type 0 where
  pub has : number e ≡ k
  pub alone : (d : E) → number d ≡ k → d ≡ e
  pub some : (d : E) → number d ≡ 0 → ⊥

-- A result is the only one with the number k, but for its value: a value of which P holds, where k is 0 and no error has that number, or else the only error with it.
abbrev pub ResultIs : {A E : Type 0} → (E → ℕ) → ℕ → (A → Type 0) → Result A E → Type 0
ResultIs number k P r = MatchResult r (λ a. (k ≡ 0) × (P a × ((e : _) → number e ≡ 0 → ⊥))) (OnlyError number k)

abbrev pub refusal_number : Refusal → ℕ
refusal_number Shafts = 11
refusal_number Empty = 13
refusal_number Full = 14

abbrev pub judged_number : Result Unit Refusal → ℕ
judged_number = result_number refusal_number
