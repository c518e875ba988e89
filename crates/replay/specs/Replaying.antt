-- What a replay of a list of lifts comes to (document 01, "Which comes first").
use Rattle.std.specs.Prelude.{ℕ, zero, suc, List, [], ◌∷◌}
use Rattle.stacks.specs.Count.{count}
use Rattle.lifts.specs.Bytes.{left, entered}
use Rattle.store.specs.declared.Store.{Store}
use Rattle.store.specs.Accept.{store_fault}
use Rattle.store.specs.Lifts.{lift_refusal, lifted}
use Rattle.store.specs.Slots.{top_of}

-- "it returns the store reached, the count of lifts done, and, if stopped, the number (11, 13 or 14)"; the number 0: run through. Besides (request 2/13)
-- the cassette that each lift done carried, in the order of the list.
pub record Outcome : Type 0 where
  pub reached : Store
  pub count : ℕ
  pub number : ℕ
  pub carried : List ℕ

-- a lift that carried c, and then what came of the others
abbrev pub one_more : ℕ → Outcome → Outcome
one_more c o = record { reached = o.reached; count = suc o.count; number = o.number; carried = c ∷ o.carried }

-- no lift done
abbrev pub none_done : Store → ℕ → Outcome
none_done s k = record { reached = s; count = 0; number = k; carried = [] }

-- a replay on an accepted store
unfoldable pub replay_from : Store → List ℕ → Outcome
replay_from s [] = none_done s 0
replay_from s (b ∷ bs) =
    elim (lift_refusal s (left b) (entered b)) [
      | zero ↦ one_more (top_of s (left b)) (replay_from (lifted s (left b) (entered b)) bs)
      | suc k ↦ none_done s (suc k)
    ]

-- "If the store given is refused, it comes back with its number and count 0."
unfoldable pub replay : Store → List ℕ → Outcome
unfolding replay_from
replay s bs = elim (store_fault s) [ zero ↦ replay_from s bs | suc k ↦ none_done s (suc k) ]

-- "for every cassette, how often it was carried up to where the replay ended" (request 2/13)
abbrev pub times_carried : Outcome → ℕ → ℕ
times_carried o c = count c o.carried
