-- The laws of a round around the lifts: where the wanted cassette is, how it leaves its own shaft, how a slot is made where none is left, and what a round has
-- brought about.
use mathlib.Core.Path.{◌≡◌, refl, sym, ap, ◌∙◌, fun_ext}
use mathlib.Core.Logic.{◌≢◌, Ne-symm}
use mathlib.Core.List.{List, [], ◌∷◌, ◌++◌, append_assoc}
use Prim.Native.Nat.{ℕ, suc, ◌+◌, ◌≤◌, ◌<◌}
use native.Mathlib.Decide.{dec_lt}
use native.Mathlib.Omega.{arith}
use lib.ListN.{length, length-append}
use Rattle.stacks.specs.Run.{Stacks, Lift, Usable, Step, Run}
use Rattle.stacks.specs.Count.{count, occurrences, sum, total}
use Rattle.stacks.specs.Moves.{lift}
use Rattle.stacks.specs.Placing.{Onto, Passed, Over, Placing, Next, uncover, clear, across, away, Halfway, heights_of}
use Rattle.stacks.proofs.Bottoms.{onto_then, onto_length, onto_all, onto_both}
use Rattle.stacks.proofs.Sums.{everywhere, Less, some_other_less, some_positive, sum_add, sum_equal, sum_le_outside, term_le_sum}
use Rattle.stacks.proofs.Counts.{count_append, count_own, Standing, standing, same_total}
use Rattle.stacks.proofs.Kept.{occurrences_kept, beyond_kept}
use Rattle.stacks.proofs.PlacingLaws.{passed_step, over_step, entered_higher, others_same}

-- The top of b, v or what covers it, can go to some other shaft.
pub off : {m : ℕ} {d : ℕ → ℕ} {e b v : ℕ} {P S : Stacks} {p : List ℕ} → Usable m b → Passed m d e P S → Over P S v b p → Less m b (λ i. length (S i)) d
unfolding total
off {m} {d} {b = b} {S = S} u h o =
    some_other_less m b (λ i. length (S i)) d u (omega (arith, h.all, h.floor b u, o.unpassed, onto_length o.stands))

-- All in the way has room outside, where the wanted row is the top one.
pub top_plain : {m : ℕ} {d : ℕ → ℕ} {e a b v : ℕ} {P S : Stacks} {p : List ℕ} → Passed m d e P S → Over P S v a p → Usable m a → suc (length (P b)) ≡ d b → (k l r : ℕ)
    → k + suc (length p) ≡ length (S a) → l + length (P b) ≡ length (S b) → r + (d a + d b) ≡ e + (length (S a) + length (S b)) → k + l ≤ r
top_plain {a = a} h o u t k l r ek el er = omega (arith, h.floor a u, o.unpassed)

-- A lift that may be made.
pub record Legal (m : ℕ) (d : ℕ → ℕ) (S : Stacks) (x y : ℕ) : Type 0 where
  pub differ : x ≢ y
  pub left : Usable m x
  pub entered : Usable m y
  pub some : 0 < length (S x)
  pub room : length (S y) < d y

module _ {m : ℕ} {d : ℕ → ℕ} {e : ℕ} {P : Stacks} {b v : ℕ} {S : Stacks} {a : ℕ} {p : List ℕ} {k l r : ℕ} (h : Placing m d e P b v S a p k l r) where
  -- Each lift that brings v nearer is legal.
  pub next_legal : {x y : ℕ} → Next m d a b k l r (heights_of S) x y → Legal m d S x y
  next_legal (uncover k₁ s o) =
      record { differ = Ne-symm o.not_first; left = h.first; entered = o.usable; some = omega (arith, h.covered); room = o.room }
  next_legal (clear k₀ l₁ s o) =
      record { differ = Ne-symm o.not_second; left = h.second; entered = o.usable; some = omega (arith, h.in_the_way); room = o.room }
  next_legal (across k₁ r₁ kl) =
      record {
        differ = h.differ;
        left = h.first;
        entered = h.second;
        some = omega (arith, h.covered);
        room = omega (arith, h.covered, h.outside, h.passed.floor a h.first, h.over.unpassed);
      }
  next_legal (away k₀ r₁ l₁ o) =
      record { differ = Ne-symm o.not_first; left = h.first; entered = o.usable; some = omega (arith, h.covered); room = o.room }

  -- So is the last one.
  pub home_legal : l ≡ 0 → Legal m d S a b
  home_legal l₀ =
      record { differ = h.differ; left = h.first; entered = h.second; some = omega (arith, h.covered); room = omega (arith, h.in_the_way, h.place) }

-- No slot is left outside a and b: the top of a third shaft c, which is not passed, goes to b, and leaves one.
module _
    {m : ℕ} {d : ℕ → ℕ} {e : ℕ} {P : Stacks} {b v : ℕ} {S : Stacks} {a : ℕ} {p : List ℕ} {c : ℕ} (h : Passed m d e P S) (o : Over P S v a p) (k l : ℕ)
    (first : Usable m a) (second : Usable m b) (differ : a ≢ b) (place : length (P b) < d b) (covered : k + suc (length p) ≡ length (S a))
    (in_the_way : l + length (P b) ≡ length (S b)) (full : d a + d b ≡ e + (length (S a) + length (S b))) (third : Usable m c) (ca : c ≢ a) (cb : c ≢ b)
    (top : length (P c) < length (S c))
  where
    pub turn_legal : Legal m d S c b
    turn_legal = record { differ = cb; left = third; entered = second; some = omega arith; room = omega (arith, covered, full, h.floor a first, o.unpassed) }

    pub turned : {T : Stacks} → Step m d (lift c b) S T → Placing m d e P b v T a p k (l + 1) 1
    turned t =
        let same = others_same t a (Ne-symm ca) differ in
        record {
          passed = passed_step h t top;
          over = over_step o t (λ q. absurd (ca (sym q)));
          differ = differ;
          first = first;
          second = second;
          place = place;
          covered = omega (arith, covered, same);
          in_the_way = omega (arith, in_the_way, entered_higher t);
          outside = omega (arith, full, same, entered_higher t);
          way = λ _. omega arith;
        }

module _ {m : ℕ} {d : ℕ → ℕ} {e : ℕ} {G S P : Stacks} (h : Halfway m d e G S P) where
  -- A list that leaves what is passed alone is part of the way.
  pub halfway_after : {T : Stacks} {ls : List Lift} → Run m d S ls T → Passed m d e P T → Halfway m d e G T P
  halfway_after r q = record {
    passed = q;
    goal = h.goal;
    counts = λ c. sym (occurrences_kept r c) ∙ h.counts c;
    beyond = λ i p. beyond_kept r i p ∙ h.beyond i p;
  }

  -- Any parts at the bottom of both that hold the floors may be what is passed.
  halfway_as : (Q : Stacks) → ((i : ℕ) → Onto (Q i) (S i)) → ((i : ℕ) → Onto (Q i) (G i)) → ((i : ℕ) → Usable m i → d i ≤ e + length (Q i)) → Halfway m d e G S Q
  halfway_as Q now goal floor = record {
    passed = record { onto = now; floor = floor; within = h.passed.within; all = h.passed.all };
    goal = goal;
    counts = h.counts;
    beyond = h.beyond;
  }

  -- What is passed may be given up again, down to the floors.
  pub halfway_less : (Q : Stacks) → ((i : ℕ) → Onto (Q i) (P i)) → ((i : ℕ) → Usable m i → d i ≤ e + length (Q i)) → Halfway m d e G S Q
  halfway_less Q part floor = halfway_as Q (λ i. onto_then (part i) (h.passed.onto i)) (λ i. onto_then (part i) (h.goal i)) floor

  -- One more that stands alike on what is passed of b is passed.
  pub halfway_more : (Q : Stacks) (b v : ℕ) → Q b ≡ v ∷ P b → ((i : ℕ) → i ≢ b → Q i ≡ P i) → Onto (v ∷ P b) (S b) → Onto (v ∷ P b) (G b) → Halfway m d e G S Q
  halfway_more Q b v here there now goal =
      halfway_as Q (everywhere _ b (rw here now) (λ i n. rw (there i n) (h.passed.onto i))) (everywhere _ b (rw here goal) (λ i n. rw (there i n) (h.goal i)))
      (everywhere _ b (λ u. rw here (omega (arith, h.passed.floor b u))) (λ i n u. rw (there i n) (h.passed.floor i u)))

  -- The wanted number stands somewhere, and is not passed there: both stores hold it equally often, and what is passed is the same.
  pub record Found (v : ℕ) : Type 0 where
    pub shaft : ℕ
    pub under : List ℕ
    pub usable : Usable m shaft
    pub over : Over P S v shaft under

  -- how often a number stands above what is passed, and in it
  occurrences_on : (c : ℕ) (T : Stacks) (o : (i : ℕ) → Onto (P i) (T i)) → occurrences m c T ≡ sum m (λ i. count c (o i).above) + occurrences m c P
  unfolding occurrences
  occurrences_on c T o =
      sum_equal m (λ i. count c (T i)) (λ i. count c (o i).above + count c (P i)) (λ i p. rw (o i).split (count_append c (o i).above (P i)))
      ∙ sum_add m (λ i. count c (o i).above) (λ i. count c (P i))

  pub find : (b v : ℕ) → Usable m b → Onto (v ∷ P b) (G b) → Found v
  find b v p o =
      let w : G b ≡ (o.above ++ (v ∷ [])) ++ P b = o.split ∙ sym (append_assoc o.above (v ∷ []) (P b)) in
      let a = some_positive m (λ i. count v (h.passed.onto i).above)
      (omega (
        arith,
        h.counts v,
        occurrences_on v S h.passed.onto,
        occurrences_on v G h.goal,
        term_le_sum m (λ i. count v (h.goal i).above) b p,
        ap (count v) (h.goal b).split ∙ count_append v (h.goal b).above (P b),
        simp count_append at (ap (count v) w),
        count_own v [],
      )) in
      at a.place a.below (standing v (h.passed.onto a.place).above a.less)
    where
      at : (a : ℕ) → Usable m a → Standing v (h.passed.onto a).above → Found v
      at a u t = record {
        shaft = a;
        under = t.under ++ P a;
        usable = u;
        over = record {
          stands = record { above = t.above; split = (h.passed.onto a).split ∙ rw t.split (append_assoc t.above (v ∷ t.under) (P a)) };
          unpassed = simp length-append (omega arith);
        };
      }

  -- Where v stands just on what is passed of its shaft, it is in place.
  pub in_place : {b v : ℕ} {p : List ℕ} → Over P S v b p → length p ≡ length (P b) → Onto (v ∷ P b) (S b)
  in_place {b} {v} {p} o e =
      let same : p ≡ P b = onto_all (onto_both (h.passed.onto b) (onto_then (record { above = v ∷ []; split = refl }) o.stands) (omega arith)) (omega arith) in
      rw (← same) o.stands

  -- Where all of the goal is passed, the store is the goal.
  pub finished : ((i : ℕ) → Usable m i → length (G i) ≤ length (P i)) → S ≡ G
  unfolding total
  finished z = fun_ext (λ i. elim (dec_lt i m) [
    | yes p ↦
        let others = sum_le_outside m (λ j. length (G j)) (λ j. length (S j)) i p (λ j q n. omega (arith, z j q, onto_length (h.passed.onto j))) in
        onto_all (h.passed.onto i) (omega (arith, same_total m S G h.counts, z i p)) ∙ sym (onto_all (h.goal i) (z i p))
    | no p ↦ h.beyond i (omega arith)
  ])
