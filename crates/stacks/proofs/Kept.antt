-- What every legal list keeps: how often each number stands, the number of cassettes, and the shafts beyond the m open ones.
use mathlib.Core.Path.{◌≡◌, refl, sym, ap, ◌∙◌}
use mathlib.Core.List.{List, [], ◌∷◌}
use Prim.Native.Nat.{ℕ, ◌+◌, ◌≤◌}
use native.Mathlib.Omega.{arith}
use lib.ListN.{length}
use Rattle.stacks.specs.Run.{Stacks, Lift, Run, done, step}
use Rattle.stacks.specs.Count.{sum, count, occurrences, total, empties}
use Rattle.stacks.proofs.Sums.{sum_differ_two}

module _ (m : ℕ) (d : ℕ → ℕ) where
  -- Let each cassette have a weight, and a stack the weight of its cassettes: the weight of all shafts is kept.
  weight_kept : (weight : List ℕ → ℕ) (each : ℕ → ℕ) → ((x : ℕ) (l : List ℕ) → weight (x ∷ l) ≡ each x + weight l)
      → {S T : Stacks} {ls : List Lift} → Run m d S ls T → sum m (λ i. weight (S i)) ≡ sum m (λ i. weight (T i))
  weight_kept weight each law done = refl
  weight_kept weight each law {S} (step {T = T} {l = l} s r) =
      omega (
        arith,
        weight_kept weight each law r,
        ap weight s.taken ∙ law s.cassette (T l.left),
        ap weight s.placed ∙ law s.cassette (S l.entered),
        sum_differ_two m (λ i. weight (S i)) (λ i. weight (T i)) l.left l.entered s.differ s.left_below s.entered_below
            (λ i p q r. ap weight (sym (s.kept i q r))),
      )

module _ {m : ℕ} {d : ℕ → ℕ} {S T : Stacks} {ls : List Lift} where
  -- A legal list keeps how often each number stands.
  pub occurrences_kept : Run m d S ls T → (c : ℕ) → occurrences m c S ≡ occurrences m c T
  unfolding occurrences count
  occurrences_kept r c = weight_kept m d (count c) (λ x. count c (x ∷ [])) (λ x l. omega arith) r

  -- A legal list keeps the number of cassettes.
  pub total_kept : Run m d S ls T → total m S ≡ total m T
  unfolding total
  total_kept r = weight_kept m d length (λ x. 1) (λ x l. omega arith) r

  -- A legal list keeps the number of empty slots.
  pub empties_kept : Run m d S ls T → empties m d S ≡ empties m d T
  unfolding empties
  empties_kept r = rw (total_kept r)

-- A legal list leaves the shafts beyond m alone.
pub beyond_kept : {m : ℕ} {d : ℕ → ℕ} {S T : Stacks} {ls : List Lift} → Run m d S ls T → (i : ℕ) → m ≤ i → T i ≡ S i
beyond_kept done i h = refl
beyond_kept (step s r) i h = beyond_kept r i h ∙ s.kept i (omega (arith, s.left_below)) (omega (arith, s.entered_below))
