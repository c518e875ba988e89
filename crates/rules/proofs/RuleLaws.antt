-- The rule by the number of shafts: with one or two the readings agree, with three or more the floors.
use mathlib.Core.List.{reverse, reverse_aux, reverse-reverse}
use mathlib.Core.Logic.{◌↔◌}
use mathlib.Core.Path.{◌≡◌, refl, sym, ap, ◌∙◌}
use Prim.Native.Nat.{ℕ, zero, suc, ◌+◌, ◌-◌, ◌≤◌, ◌<◌}
use native.Mathlib.Omega.{arith}
use Rattle.stacks.specs.Count.{sum}
use Rattle.stacks.specs.TwoStackReading.{two_stack_reading}
use Rattle.store.specs.declared.Store.{Store}
use Rattle.store.specs.Slots.{depth, height, upward, stack, cassette_count, empty_count}
use Rattle.store.specs.Sound.{Shaped, Sound}
use Rattle.store.proofs.Acceptance.{accepted_sound}
use Rattle.store.proofs.Counted.{heights_counted, same_count}
use Rattle.store.proofs.Views.{same_stacks}
use Rattle.reach.specs.Pairs.{Comparable}
use Rattle.reach.specs.Rules.{two_shaft_reading, floor, RuleFor, Rule}
use Rattle.reach.proofs.Agree.{reading_agrees, none_beyond}

module _ (s : Store) (p : Shaped s) where
  -- one or two shafts hold what shafts 0 and 1 hold
  two_hold : 0 < s.m → s.m ≤ 2 → cassette_count s ≡ height s 0 + height s 1
  unfolding sum
  two_hold = go s.m refl
    where
      go : (m : ℕ) → s.m ≡ m → 0 < m → m ≤ 2 → cassette_count s ≡ height s 0 + height s 1
      go zero e h i = absurd (omega arith)
      go (suc zero) e h i =
          omega (arith, heights_counted s, ap (λ m. sum m (height s)) e, p.heights 1, p.none_beyond 1 (omega arith))
      go (suc (suc zero)) e h i =
          omega (arith, heights_counted s, ap (λ m. sum m (height s)) e)
      go (suc (suc (suc m))) e h i = absurd (omega arith)

  -- with one shaft, the reading is that shaft's
  one_read : s.m ≡ 1 → two_shaft_reading s ≡ reverse (stack s 0)
  unfolding two_stack_reading
  one_read e = reading_agrees s ∙ ap (reverse_aux (stack s 0)) (none_beyond s p 1 (omega arith))

module _ (s t : Store) (p : Comparable s t) where
  start : Sound s
  start = accepted_sound s p.start

  goal : Sound t
  goal = accepted_sound t p.goal

  -- one or two shafts of both stores hold as many cassettes
  pub both_hold : (n : ℕ) → n ≡ cassette_count s → s.m ≤ 2 → (n ≡ height s 0 + height s 1) × (n ≡ height t 0 + height t 1)
  both_hold n e h = (
    e ∙ two_hold s start.shaped start.some_shaft h,
    e ∙ same_count s t p.cassettes ∙ two_hold t goal.shaped goal.some_shaft (rw p.frame.shafts at h),
  )

  -- stores of one shaft that read the same are the same
  one_same : s.m ≡ 1 → two_shaft_reading s ≡ two_shaft_reading t → s ≡ t
  one_same e r = same_stacks s t start.shaped goal.shaped p.frame go
    where
      f : t.m ≡ 1
      f = sym p.frame.shafts ∙ e

      g : reverse (stack s 0) ≡ reverse (stack t 0)
      g = sym (one_read s start.shaped e) ∙ r ∙ one_read t goal.shaped f

      go : (x : ℕ) → stack s x ≡ stack t x
      go zero = sym (reverse-reverse (stack s 0)) ∙ ap reverse g ∙ reverse-reverse (stack t 0)
      go (suc x) = none_beyond s start.shaped (suc x) (omega arith) ∙ sym (none_beyond t goal.shaped (suc x) (omega arith))

  -- "m = 1: only the start itself. m = 2: .. both stores read the same."
  pub few_rule : s.m ≤ 2 → (two_shaft_reading s ≡ two_shaft_reading t) ↔ Rule s t
  few_rule = go s.m refl
    where
      go : (m : ℕ) → s.m ≡ m → m ≤ 2 → (two_shaft_reading s ≡ two_shaft_reading t) ↔ RuleFor m s t
      go zero e h = absurd (omega (arith, start.some_shaft))
      go (suc zero) e h = (one_same e, λ r. ap two_shaft_reading r)
      go (suc (suc zero)) e h = (λ r. r, λ r. r)
      go (suc (suc (suc m))) e h = absurd (omega arith)

  -- "m ≥ 3: .. these rows agree."
  pub more_rule : (e : ℕ) → e ≡ empty_count s → 2 < s.m
      → ((x : ℕ) → x < s.m → upward s x (depth s x - e) ≡ upward t x (depth s x - e)) ↔ Rule s t
  unfolding floor
  more_rule e a i = go s.m refl i
    where
      go : (j : ℕ) → s.m ≡ j → 2 < j → ((x : ℕ) → x < s.m → upward s x (depth s x - e) ≡ upward t x (depth s x - e)) ↔ RuleFor j s t
      go zero e g = absurd (omega arith)
      go (suc zero) e g = absurd (omega arith)
      go (suc (suc zero)) e g = absurd (omega arith)
      go (suc (suc (suc j))) f g = (λ r x l. rw (← a) (r x l), λ r x l. rw (← a) at (r x l))
