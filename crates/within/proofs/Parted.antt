-- The store of some shafts of an accepted store: accepted too, with the cassettes of these shafts, no deeper; and two of them can be compared where they have
-- the same cassettes.
use mathlib.Core.Bool.{Bool, true, false, cond}
use mathlib.Core.Path.{◌≡◌, refl, sym, ap, ◌∙◌}
use Prim.Native.Nat.{ℕ, ◌+◌, ◌≤◌, ◌<◌}
use native.Mathlib.Decide.{dec_lt}
use native.Mathlib.Omega.{arith}
use lib.ListN.{length}
use Rattle.stacks.specs.Count.{sum, greatest, count, occurrences}
use Rattle.stacks.proofs.Sums.{sum_equal, sum_add, term_le_greatest, greatest_le}
use Rattle.depths.proofs.DepthLaws.{depths_same}
use Rattle.store.specs.declared.Store.{Store}
use Rattle.store.specs.Accept.{Accepted}
use Rattle.store.specs.Slots.{SameFrame, depth, deepest, height, stack, cassettes, cassette_count}
use Rattle.store.specs.Lists.{Reachable}
use Rattle.store.specs.Sound.{Sound}
use Rattle.store.proofs.Acceptance.{accepted_sound, accepted_shaped, sound_accepted}
use Rattle.store.proofs.Counted.{heights_counted}
use Rattle.store.proofs.Views.{same_stacks}
use Rattle.reach.specs.Pairs.{SameCassettes, Comparable}
use Rattle.reach.proofs.Agree.{occurrences_agree, none_beyond}
use Rattle.reach.proofs.Lasting.{NoGap, row_counted, none_counted, frame_depths, leads_counts}
use Rattle.sets.specs.Sets.{has, shafts_in, shaft_at}
use Rattle.sets.proofs.SetLaws.{by_test, placed_shaft, sum_over}
use Rattle.parts.specs.Parts.{part}
use Rattle.parts.specs.PartOf.{named, PartOf}
use Rattle.parts.proofs.PartLaws.{part_is_lem, part_heights}

-- a sum over all is the sum over those in a set and over the others
sum_parts : (m : ℕ) (b : ℕ → Bool) (f : ℕ → ℕ) → sum m f ≡ sum m (λ x. cond (b x) (f x) 0) + sum m (λ x. cond (b x) 0 (f x))
sum_parts m b f =
    sum_equal m f (λ x. cond (b x) (f x) 0 + cond (b x) 0 (f x)) (λ x h. either (b x) (f x)) ∙ sum_add m (λ x. cond (b x) (f x) 0) (λ x. cond (b x) 0 (f x))
  where
    either : (c : Bool) (k : ℕ) → k ≡ cond c k 0 + cond c 0 k
    either true k = omega arith
    either false k = omega arith

module _ (some : ℕ) (s : Store) (p : Accepted s) where
  sound : Sound s
  sound = accepted_sound s p

  partly : PartOf some s (part some s)
  partly = part_is_lem some s sound.shaped

  -- what adds up over the shafts of the part adds up over those of the set
  over_set : (f g : ℕ → ℕ) → ((i : ℕ) → f i ≡ g (named some s i)) → sum (part some s).m f ≡ sum s.m (λ x. cond (has some x) (g x) 0)
  over_set f g h =
      ap (λ (m : ℕ). sum m f) partly.shafts ∙ sum_equal (length (shafts_in some s.m)) f (λ i. g (named some s i)) (λ i _. h i) ∙ sum_over some g s.m

  -- how often a number stands in the part
  pub part_counts : (c : ℕ) → count c (cassettes (part some s)) ≡ sum s.m (λ x. cond (has some x) (count c (stack s x)) 0)
  unfolding occurrences
  part_counts c = sym (occurrences_agree (part some s) c) ∙ over_set (λ i. count c (stack (part some s) i)) (λ x. count c (stack s x)) (λ i. ap (count c) (partly.stacks i))

  -- how many cassettes the part has
  pub part_count : cassette_count (part some s) ≡ sum s.m (λ x. cond (has some x) (height s x) 0)
  part_count = sym (heights_counted (part some s)) ∙ over_set (height (part some s)) (height s) (part_heights partly)

  pub part_deepest : deepest (part some s) ≤ deepest s
  unfolding deepest
  part_deepest =
      greatest_le (part some s).m (depth (part some s)) (greatest s.m (depth s)) λ i.
      elim (dec_lt (named some s i) s.m) [
        | yes h ↦ omega (arith, partly.depths i, term_le_greatest s.m (depth s) (named some s i) h)
        | no h ↦ omega (arith, partly.depths i, sound.shaped.none_beyond (named some s i) (omega arith))
      ]

  part_few : (c : ℕ) → count c (cassettes (part some s)) ≤ count c (cassettes s)
  unfolding occurrences
  part_few c =
      omega (
        arith,
        part_counts c,
        sum_parts s.m (has some) (λ x. count c (stack s x)),
        occurrences_agree s c,
      )

  part_gapless : NoGap s → NoGap (part some s)
  unfolding stack
  part_gapless f x k h z =
      let e = part_heights partly x in
      omega (
        arith,
        row_counted (part some s) 0 x (height (part some s) x) k h z,
        ap (count 0) (partly.stacks x),
        none_counted s 0 (named some s x) (height s (named some s x)) (f (named some s x)),
      )

  pub part_accepted : 0 < (part some s).m → Accepted (part some s)
  part_accepted h =
      sound_accepted (part some s) (record {
        shaped = partly.shaped;
        some_shaft = h;
        some_row = λ x i. omega (arith, partly.depths x, sound.some_row (named some s x) (placed_shaft some s.m x (omega (arith, partly.shafts))).below);
        no_gap = part_gapless sound.no_gap;
        once = λ c r. omega (arith, part_few c, sound.once c r);
      })

-- the parts of two stores that can be compared
module _ (some : ℕ) (s t : Store) (p : Comparable s t) where
  start_part : PartOf some s (part some s)
  start_part = part_is_lem some s (accepted_shaped s p.start)

  goal_part : PartOf some t (part some t)
  goal_part = part_is_lem some t (accepted_shaped t p.goal)

  same_names : (i : ℕ) → named some s i ≡ named some t i
  same_names i = ap (λ (m : ℕ). shaft_at (shafts_in some m) i) p.frame.shafts

  pub part_frames : SameFrame (part some s) (part some t)
  part_frames = record {
    shafts = start_part.shafts ∙ ap (λ (m : ℕ). length (shafts_in some m)) p.frame.shafts ∙ sym goal_part.shafts;
    depths = depths_same (part some s).depths (part some t).depths start_part.shaped.depths_sized goal_part.shaped.depths_sized
        (λ i h. start_part.depths i ∙ cc (frame_depths p.frame, same_names i) ∙ sym (goal_part.depths i));
  }

  pub part_comparable : 0 < (part some s).m → SameCassettes (part some s) (part some t) → Comparable (part some s) (part some t)
  part_comparable h e = record {
    start = part_accepted some s p.start h;
    goal = part_accepted some t p.goal (omega (arith, part_frames.shafts));
    frame = part_frames;
    cassettes = e;
  }

  -- where no shaft is in the set, there is nothing to do
  pub none_same : (part some s).m ≡ 0 → part some s ≡ part some t
  none_same z =
      same_stacks (part some s) (part some t) start_part.shaped goal_part.shaped part_frames λ i.
      none_beyond (part some s) start_part.shaped i (omega arith) ∙ sym (none_beyond (part some t) goal_part.shaped i (omega (arith, part_frames.shafts)))

  -- a part that can be reached has the same cassettes
  pub part_cassettes : Reachable (part some s) (part some t) → SameCassettes (part some s) (part some t)
  part_cassettes r c = sym (leads_counts start_part.shaped r.leads c)

  -- so has one outside of which the shafts are the same
  pub rest_cassettes : ((x : ℕ) → x < s.m → has some x ≡ false → stack s x ≡ stack t x) → SameCassettes (part some s) (part some t)
  unfolding occurrences
  rest_cassettes e c =
      let rest : sum s.m (λ x. cond (has some x) 0 (count c (stack s x))) ≡ sum s.m (λ x. cond (has some x) 0 (count c (stack t x)))
      = sum_equal s.m _ _ (λ x h. by_test (has some x)
      (λ i. rw i refl)
      (λ i. rw i (ap (count c) (e x h i)))) in
      omega (
        arith,
        rest,
        part_counts some s p.start c,
        part_counts some t p.goal c,
        sum_parts s.m (has some) (λ x. count c (stack s x)),
        sum_parts s.m (has some) (λ x. count c (stack t x)),
        occurrences_agree s c,
        occurrences_agree t c,
        p.cassettes c,
        ap (λ (m : ℕ). sum m (λ x. cond (has some x) (count c (stack t x)) 0)) p.frame.shafts,
        ap (λ (m : ℕ). sum m (λ x. count c (stack t x))) p.frame.shafts,
      )
