-- With one shaft or two, a shift of the difference of heights leads from start to goal, within the list space.
use mathlib.Core.List.{List, []}
use mathlib.Core.Path.{◌≡◌, refl, sym, ap, ◌∙◌, subst}
use Prim.Native.Nat.{ℕ, zero, suc, ◌+◌, ◌≤◌}
use native.Mathlib.Omega.{arith}
use lib.ListN.{replicate, length-replicate}
use Rattle.stacks.specs.Run.{Run, Within}
use Rattle.stacks.specs.Moves.{shift}
use Rattle.stacks.specs.TwoStackReading.{two_stack_reading}
use Rattle.stacks.proofs.TwoShafts.{two_shift, two_unshift}
use Rattle.store.specs.declared.Store.{Store}
use Rattle.store.specs.Slots.{depth, height, stack, cassette_count, list_space}
use Rattle.store.specs.Lists.{Leads, ended}
use Rattle.lifts.specs.Bytes.{lift_byte}
use Rattle.store.specs.Sound.{Sound}
use Rattle.store.proofs.Acceptance.{accepted_sound}
use Rattle.store.proofs.Played.{run_leads}
use Rattle.store.proofs.Rows.{stack_length}
use Rattle.reach.specs.Pairs.{Comparable}
use Rattle.reach.specs.Rules.{RuleFor, Rule}
use Rattle.reach.proofs.Lasting.{frame_depths}
use Rattle.reach.proofs.Agree.{shaped_within, reading_agrees, none_beyond}
use Rattle.moves.specs.Written.{written}
use Rattle.moves.proofs.Moved.{shift_bytes}
use Rattle.moves.proofs.Stepping.{steps_bytes}
use Rattle.rules.proofs.RuleLaws.{both_hold}
use Rattle.making.specs.Made.{MadeIs}

module _ (s t : Store) (p : Comparable s t) (few : s.m ≤ 2) where
  start : Sound s
  start = accepted_sound s p.start

  goal : Sound t
  goal = accepted_sound t p.goal

  -- no shaft holds more than the list space
  pub heights_fit : (height s 0 ≤ list_space s) × (height t 0 ≤ list_space s)
  unfolding list_space
  heights_fit = omega (arith, both_hold s t p (cassette_count s) refl few)

  -- two shafts as stacks: the goal within its depths, nothing outside, the same reading
  goal_within : s.m ≡ 2 → Within 2 (depth s) (stack t)
  goal_within e = rw (← e, p.frame.shafts, frame_depths p.frame) (shaped_within t goal.shaped)

  outside : s.m ≡ 2 → (x : ℕ) → 2 ≤ x → stack s x ≡ stack t x
  outside e x h = none_beyond s start.shaped x (omega arith) ∙ sym (none_beyond t goal.shaped x (omega (arith, p.frame.shafts)))

  -- a shift of two shafts that runs from start to goal, and shifts none where they are the same, leads from start to goal
  shift_leads : (k a b : ℕ) → (s ≡ t → k ≡ 0)
      → (s.m ≡ 2 → two_stack_reading (stack s) ≡ two_stack_reading (stack t) → Run 2 (depth s) (stack s) (shift k a b) (stack t))
      → Rule s t → Leads s (replicate k (lift_byte a b)) t
  shift_leads k a b none run = go s.m refl
    where
      go : (m : ℕ) → s.m ≡ m → RuleFor m s t → Leads s (replicate k (lift_byte a b)) t
      go zero e r = absurd (omega (arith, start.some_shaft))
      go (suc zero) e r = rw (none r) (subst (Leads s []) r ended)
      go (suc (suc zero)) e r =
          rw shift_bytes at
          (run_leads start.shaped goal.shaped p.frame
          (subst (λ m. Run m (depth s) (stack s) (shift k a b) (stack t)) (sym e) (run e (sym (reading_agrees s) ∙ r ∙ reading_agrees t))))
      go (suc (suc (suc m))) e r = absurd (omega arith)

  module _ (k : ℕ) {came out : List ℕ} {n : ℕ} (r : Rule s t) where
    -- its bytes at the start of the lent space are a list made
    shift_made : (a b : ℕ) → (s ≡ t → k ≡ 0) → Leads s (replicate k (lift_byte a b)) t → k ≤ list_space s
        → (n ≡ 0 + k) × (out ≡ written came 0 (replicate k (lift_byte a b))) → MadeIs s t came n out
    shift_made a b none l h w =
        record { steps = steps_bytes l (length-replicate k (lift_byte a b)) w; short = omega arith; nothing = λ e. omega (arith, none e) }

    -- with k more in shaft 0 at the start, k lifts from 0 to 1
    pub made_down : height s 0 ≡ k + height t 0 → (n ≡ 0 + k) × (out ≡ written came 0 (replicate k (lift_byte 0 1))) → MadeIs s t came n out
    made_down more =
        shift_made 0 1 none_down
        (shift_leads k 0 1 none_down
        (λ e q. two_shift k (goal_within e) (outside e) q (omega (arith, stack_length s 0, stack_length t 0))) r)
        (omega (arith, heights_fit))
      where
        none_down : s ≡ t → k ≡ 0
        none_down e = omega (arith, ap (λ (u : Store). height u 0) e)

    -- with k more there at the end, k lifts from 1 to 0
    pub made_up : height t 0 ≡ k + height s 0 → (n ≡ 0 + k) × (out ≡ written came 0 (replicate k (lift_byte 1 0))) → MadeIs s t came n out
    made_up more =
        shift_made 1 0 none_up
        (shift_leads k 1 0 none_up
        (λ e q. two_unshift k (goal_within e) (outside e) q (omega (arith, stack_length s 0, stack_length t 0))) r)
        (omega (arith, heights_fit))
      where
        none_up : s ≡ t → k ≡ 0
        none_up e = omega (arith, ap (λ (u : Store). height u 0) e)
