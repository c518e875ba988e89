-- The theorem of document 01, "Which goals can be reached": "reachable" is equivalent to the rules, and where they hold there is a list within 4hn + 8n.
use mathlib.Core.List.{List, [], ◌∷◌, map, reverse_aux}
use mathlib.Core.Logic.{◌↔◌}
use mathlib.Core.Path.{◌≡◌, refl, sym, ap, ◌∙◌, subst, subst₂}
use Prim.Native.Nat.{ℕ, zero, suc, ◌≤◌, ◌<◌}
use native.Mathlib.Omega.{arith}
use lib.ListN.{length, length-map}
use Rattle.stacks.specs.Run.{Stacks, Lift, turned, Run, Within, Reached}
use Rattle.stacks.specs.Count.{greatest, occurrences, total, empties}
use Rattle.stacks.proofs.Runs.{back, run_back}
use Rattle.stacks.proofs.Counts.{same_total}
use Rattle.stacks.proofs.Sums.{term_le_greatest}
use Rattle.stacks.proofs.Stores.{reached_within}
use Rattle.stacks.proofs.Floors.{room}
use Rattle.stacks.proofs.TwoShafts.{one_shaft_lem, reading_kept, two_reached}
use Rattle.stacks.proofs.Rounds.{reached_by_rounds}
use Rattle.store.specs.declared.Store.{Store}
use Rattle.store.specs.Slots.{depth, deepest, height, downward, stack, list_space}
use Rattle.store.specs.Sound.{Shaped, Sound}
use Rattle.store.specs.Lists.{lift_of, lift_bytes, turned_byte, backward, Leads, ended, Reachable}
use Rattle.store.proofs.Acceptance.{accepted_sound}
use Rattle.store.proofs.Played.{leads_run, leads_shaped, leads_frame, run_leads}
use Rattle.store.proofs.Rows.{stack_length}
use Rattle.store.proofs.Views.{same_stacks}
use Rattle.reach.specs.Pairs.{Comparable}
use Rattle.reach.specs.Rules.{two_shaft_reading, floor, SameFloors, RuleFor, Rule}
use Rattle.reach.proofs.Lasting.{SameLowest, leads_floors, frame_depths}
use Rattle.reach.proofs.Agree.{shaped_within, reading_agrees, occurrences_agree, total_agrees, floor_agrees, none_beyond, lowest_rows, rows_agree}

-- the bytes of a list of lifts turned about are its bytes turned about
bytes_back : (bs : List ℕ) (r : List Lift) → lift_bytes (reverse_aux (map turned (map lift_of bs)) r) ≡ reverse_aux (map turned_byte bs) (lift_bytes r)
bytes_back [] r = refl
bytes_back (b ∷ bs) r = bytes_back bs (turned (lift_of b) ∷ r)

-- a list turned about leads back
pub leads_back : {s t : Store} {bs : List ℕ} → Shaped s → Leads s bs t → Leads t (backward bs) s
leads_back {s} {t} {bs} p l =
    let ls : List Lift = back (map lift_of bs) in
    let f = leads_frame l in
    let r : Run t.m (depth t) (stack t) ls (stack s)
    = subst₂ (λ (m : ℕ) (d : ℕ → ℕ). Run m d (stack t) ls (stack s)) f.shafts (frame_depths f) (run_back (shaped_within s p) (leads_run p l)) in
    rw bytes_back at (run_leads (leads_shaped p l) p (record { shafts = sym f.shafts; depths = sym f.depths }) r)

-- a list within the list space
pub record ShortList (s t : Store) : Type 0 where
  pub lifts : List ℕ
  pub leads : Leads s lifts t
  pub short : length lifts ≤ list_space s

-- what two comparable stores have in common as stacks
module _ (s t : Store) (p : Comparable s t) where
  start : Sound s
  start = accepted_sound s p.start

  goal : Sound t
  goal = accepted_sound t p.goal

  pub start_within : Within s.m (depth s) (stack s)
  start_within = shaped_within s start.shaped

  goal_within : Within s.m (depth s) (stack t)
  goal_within = rw (p.frame.shafts, frame_depths p.frame) (shaped_within t goal.shaped)

  pub beyond : (x : ℕ) → s.m ≤ x → stack s x ≡ stack t x
  beyond x h = none_beyond s start.shaped x h ∙ sym (none_beyond t goal.shaped x (rw p.frame.shafts at h))

  pub same_occurrences : (c : ℕ) → occurrences s.m c (stack s) ≡ occurrences s.m c (stack t)
  same_occurrences c = occurrences_agree s c ∙ p.cassettes c ∙ rw p.frame.shafts (sym (occurrences_agree t c))

  same_empties : empties s.m (depth s) (stack s) ≡ empties s.m (depth s) (stack t)
  unfolding empties
  same_empties = rw (same_total s.m (stack s) (stack t) same_occurrences)

  -- the floor of the start is filled in both stores
  pub start_floor : (x : ℕ) → x < s.m → floor s x ≤ height s x
  start_floor x h = rw (← floor_agrees s x, ← stack_length s x) (room s.m (depth s) (stack s) start_within x h)

  pub goal_floor : (x : ℕ) → x < s.m → floor s x ≤ height t x
  goal_floor x h = rw (← floor_agrees s x, ← stack_length t x, same_empties) (room s.m (depth s) (stack t) goal_within x h)

  -- the floors agree exactly if the lowest cassettes of the stacks do
  floors_agree : SameFloors s t ↔ SameLowest s t
  floors_agree = (
    λ r x h. rw (floor_agrees s x) ((rows_agree s t x (floor s x) (start_floor x h) (goal_floor x h)).0 (r x h)),
    λ r x h. (rows_agree s t x (floor s x) (start_floor x h) (goal_floor x h)).1 (rw (floor_agrees s x) at (r x h)),
  )

  -- three shafts or more that obey the rule have the same floors, read downward
  pub rule_floors : 3 ≤ s.m → Rule s t → (x : ℕ) → x < s.m → downward s x (floor s x) ≡ downward t x (floor s x)
  rule_floors h r x i =
      sym (lowest_rows s x (floor s x) (start_floor x i)) ∙ rw (floor_agrees s x) at (floors_agree.0 (go s.m refl r) x i) ∙ lowest_rows t x (floor s x) (goal_floor x i)
    where
      go : (m : ℕ) → s.m ≡ m → RuleFor m s t → SameFloors s t
      go zero e q = absurd (omega arith)
      go (suc zero) e q = absurd (omega arith)
      go (suc (suc zero)) e q = absurd (omega arith)
      go (suc (suc (suc k))) e q = q

  -- a run of the stacks within the bound is a list within the list space
  short_list : Reached s.m (depth s) (stack s) (stack t) (list_space s) → ShortList s t
  short_list r = record {
    lifts = lift_bytes r.lifts;
    leads = run_leads start.shaped goal.shaped p.frame r.runs;
    short = rw length-map r.short;
  }

  -- the rules for two shafts and for more give such a run
  two_shafts : s.m ≡ 2 → two_shaft_reading s ≡ two_shaft_reading t → Reached s.m (depth s) (stack s) (stack t) (list_space s)
  unfolding list_space total
  two_shafts e r =
      subst (λ m. Reached m (depth s) (stack s) (stack t) (list_space s)) (sym e)
      (reached_within (omega (arith, total_agrees s, ap (λ m. total m (stack s)) e))
      (two_reached (rw e at goal_within) (λ x h. beyond x (omega arith)) (sym (reading_agrees s) ∙ r ∙ reading_agrees t)))

  more_shafts : 3 ≤ s.m → SameFloors s t → Reached s.m (depth s) (stack s) (stack t) (list_space s)
  unfolding list_space deepest
  more_shafts h r =
      rw (total_agrees s) at
      (reached_by_rounds s.m (depth s) (greatest s.m (depth s)) h start.some_row (term_le_greatest s.m (depth s)) (stack s) (stack t) start_within goal_within beyond same_occurrences
      (floors_agree.0 r))

  -- what can be reached
  pub rule_reaches : Rule s t → ShortList s t
  rule_reaches = go s.m refl
    where
      go : (m : ℕ) → s.m ≡ m → RuleFor m s t → ShortList s t
      go zero e r = absurd (omega (arith, start.some_shaft))
      go (suc zero) e r = record { lifts = []; leads = subst (Leads s []) r ended; short = omega arith }
      go (suc (suc zero)) e r = short_list (two_shafts e r)
      go (suc (suc (suc k))) e r = short_list (more_shafts (omega arith) r)

  -- what never changes
  pub reachable_rule : Reachable s t → Rule s t
  reachable_rule r = go s.m refl
    where
      run_at : {m : ℕ} → s.m ≡ m → Run m (depth s) (stack s) (map lift_of r.lifts) (stack t)
      run_at e = subst (λ m. Run m (depth s) (stack s) (map lift_of r.lifts) (stack t)) e (leads_run start.shaped r.leads)

      go : (m : ℕ) → s.m ≡ m → RuleFor m s t
      go zero e = absurd (omega (arith, start.some_shaft))
      go (suc zero) e =
          same_stacks s t start.shaped goal.shaped p.frame λ x. ap (λ (S : Stacks). S x) (one_shaft_lem (run_at e))
      go (suc (suc zero)) e = reading_agrees s ∙ reading_kept (run_at e) ∙ sym (reading_agrees t)
      go (suc (suc (suc k))) e = floors_agree.1 (leads_floors start.shaped r.leads)

  pub reachable_exactly : Reachable s t ↔ Rule s t
  reachable_exactly = (reachable_rule, λ r. let l = rule_reaches r in record { lifts = l.lifts; leads = l.leads })
