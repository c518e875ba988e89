-- Where all shafts have one depth h, what document 01 says of m × h slots holds as it stands: e = m × h − n, and the list space is 4hn + 8n with that h.
use mathlib.Core.Path.{◌≡◌, ap, ◌∙◌}
use Prim.Native.Nat.{ℕ, ◌-◌, ◌*◌, ◌≤◌, ◌<◌}
use native.Mathlib.Nat.{le_antisymm}
use native.Mathlib.Decide.{dec_lt}
use native.Mathlib.Omega.{arith}
use Rattle.stacks.proofs.Sums.{sum_equal, sum_same, term_le_greatest, greatest_le}
use Rattle.depths.specs.Depths.{space_for}
use Rattle.store.specs.declared.Store.{Store}
use Rattle.store.specs.Slots.{depth, deepest, cassette_count, empty_count, list_space}
use Rattle.store.specs.Accept.{Accepted}
use Rattle.store.proofs.Acceptance.{accepted_sound}

module _ (s : Store) (e : Accepted s) (h : ℕ) (even : (x : ℕ) → x < s.m → depth s x ≡ h) where
  pub even_empties : empty_count s ≡ s.m * h - cassette_count s
  unfolding empty_count
  even_empties = ap (λ (k : ℕ). k - cassette_count s) (sum_equal s.m (depth s) (λ x. h) even ∙ sum_same s.m h)

  no_deeper : (x : ℕ) → depth s x ≤ h
  no_deeper x =
      elim (dec_lt x s.m) [
        | yes i ↦ omega (arith, even x i)
        | no i ↦ omega (arith, (accepted_sound s e).shaped.none_beyond x (omega arith))
      ]

  even_deepest : deepest s ≡ h
  unfolding deepest
  even_deepest =
      let some = (accepted_sound s e).some_shaft in
      le_antisymm (greatest_le s.m (depth s) h no_deeper) (omega (arith, even 0 some, term_le_greatest s.m (depth s) 0 some))

  pub even_space : list_space s ≡ space_for h (cassette_count s)
  unfolding list_space
  even_space = ap (λ (k : ℕ). space_for k (cassette_count s)) even_deepest
