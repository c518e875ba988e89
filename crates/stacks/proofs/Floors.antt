-- The floors: a shaft never has more empty slots than the store, so the lowest cassettes of each shaft never move.
use mathlib.Core.Path.{◌≡◌, refl, sym, ◌∙◌}
use mathlib.Core.List.{List, ◌∷◌}
use Prim.Native.Nat.{ℕ, suc, ◌+◌, ◌-◌, ◌≤◌, ◌<◌}
use native.Mathlib.Omega.{arith}
use lib.ListN.{length}
use Rattle.stacks.specs.Run.{Stacks, Lift, Step, Run, done, step, Within}
use Rattle.stacks.specs.Count.{sum, total, empties, lowest}
use Rattle.stacks.proofs.Sums.{everywhere, sum_le, sum_le_outside}
use Rattle.stacks.proofs.Runs.{step_within}
use Rattle.stacks.proofs.Kept.{empties_kept}

-- Slots are filled or empty.
pub filled_and_empty : (m : ℕ) (d : ℕ → ℕ) (S : Stacks) → Within m d S → total m S + empties m d S ≡ sum m d
unfolding empties total
filled_and_empty m d S h = omega (arith, sum_le m (λ i. length (S i)) d h)

-- Room: a shaft has no more empty slots than the store, so its floor is filled.
pub room : (m : ℕ) (d : ℕ → ℕ) (S : Stacks) → Within m d S → (i : ℕ) → i < m → d i - empties m d S ≤ length (S i)
unfolding total
room m d S h i p =
    omega (arith, filled_and_empty m d S h, sum_le_outside m (λ j. length (S j)) d i p (λ j q r. h j q))

-- What stands on the lowest k is no part of them.
lowest_cons : (k c : ℕ) (l : List ℕ) → k ≤ length l → lowest k (c ∷ l) ≡ lowest k l
unfolding lowest
lowest_cons k c l h = let e : suc (length l) - k ≡ suc (length l - k) = omega arith in rw e

-- One lift never changes the floors.
floors_of_step : {m : ℕ} {d : ℕ → ℕ} {S T : Stacks} {l : Lift} → Within m d S → Within m d T → empties m d S ≡ empties m d T → Step m d l S T
    → (i : ℕ) → i < m → lowest (d i - empties m d S) (S i) ≡ lowest (d i - empties m d S) (T i)
floors_of_step {m} {d} {S} {T} {l} h k e s =
    everywhere _ l.left
    (λ p. rw s.taken (lowest_cons _ s.cassette (T l.left) (omega (arith, room m d T k l.left p))))
    (everywhere _ l.entered
    (λ n p. rw s.placed (sym (lowest_cons _ s.cassette (S l.entered) (omega (arith, room m d S h l.entered p)))))
    (λ i ne n p. rw (s.kept i n ne)))

-- Legal lists never change the floors, the lowest d i - e cassettes of each shaft i, where e slots are empty.
pub floors_kept : {m : ℕ} {d : ℕ → ℕ} {S T : Stacks} {ls : List Lift} → Within m d S → Run m d S ls T → (i : ℕ) → i < m
    → lowest (d i - empties m d S) (S i) ≡ lowest (d i - empties m d S) (T i)
floors_kept h done i p = refl
floors_kept h (step s r) i p =
    let k = step_within s h in
    let e = empties_kept (step s done) in
    floors_of_step h k e s i p ∙ rw e (floors_kept k r i p)
