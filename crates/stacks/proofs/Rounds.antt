-- Three shafts or more: rounds lead from every store to every other with its numbers and floors, by a list within the bound.
use mathlib.Core.Path.{◌≡◌, sym, ap, subst}
use mathlib.Core.List.{List, ◌∷◌}
use Prim.Native.Nat.{ℕ, zero, suc, ◌+◌, ◌*◌, ◌-◌, ◌≤◌, ◌<◌}
use native.Mathlib.Nat.{suc-mul, mul-le-mul, mul_comm, mul-add}
use native.Mathlib.Decide.{dec_lt}
use native.Mathlib.Omega.{arith}
use lib.ListN.{length, take, take-append-drop, length-drop}
use Rattle.stacks.specs.Run.{Stacks, Usable, Within, Reached}
use Rattle.stacks.specs.Count.{sum, occurrences, total, empties, lowest}
use Rattle.stacks.specs.Placing.{Onto, Halfway}
use Rattle.stacks.proofs.Bottoms.{onto_length}
use Rattle.stacks.proofs.Sums.{sum_le, sum_le_outside, some_less, sum_differ_one}
use Rattle.stacks.proofs.Counts.{same_total}
use Rattle.stacks.proofs.Stores.{put, put_same, put_other, reached_here, reached_after, reached_within}
use Rattle.stacks.proofs.Floors.{filled_and_empty, room}
use Rattle.stacks.proofs.RoundLaws.{finished}
use Rattle.stacks.proofs.Round.{next_on, round}

module _ (m : ℕ) (d : ℕ → ℕ) (e h : ℕ) (three : 3 ≤ m) (deep : (i : ℕ) → Usable m i → 0 < d i) (shallow : (i : ℕ) → Usable m i → d i ≤ h) (G : Stacks) (G-within : Within m d G) where
  -- Rounds lead to the goal: n rows of it are not passed yet.
  rounds : (n : ℕ) (S P : Stacks) → sum m (λ i. length (G i)) ≡ n + sum m (λ i. length (P i)) → Halfway m d e G S P → Reached m d S G (n * (4 * h + 8))
  rounds zero S P z w =
      subst (λ (T : Stacks). Reached m d S T (0 * (4 * h + 8)))
      (finished w (λ i u. omega (arith, sum_le_outside m (λ i. length (P i)) (λ i. length (G i)) i u (λ i p n. onto_length (w.goal i)))))
      (reached_here m d S (0 * (4 * h + 8)))
  rounds (suc n) S P z w =
      let a = some_less m (λ i. length (P i)) (λ i. length (G i)) (omega arith) in
      let b = a.place in
      let t = next_on (w.goal b) a.less in
      let Q : Stacks = put P b (t.0 ∷ P b) in
      let x = round m d e h three deep shallow G G-within a.below t.1 w in
      reached_after (omega (arith, suc-mul n (4 * h + 8))) x.reached
      (rounds n x.store Q
      (omega (
        arith,
        ap length (put_same P b (t.0 ∷ P b)),
        sum_differ_one m (λ i. length (P i)) (λ i. length (Q i)) b a.below (λ i _ n. ap length (sym (put_other P b (t.0 ∷ P b) i n))),
      ))
      x.so)

-- What stands on the lowest k of a stack.
top_on_lowest : (k : ℕ) (l : List ℕ) → Onto (lowest k l) l
unfolding lowest
top_on_lowest k l = record { above = take (length l - k) l; split = sym (take-append-drop (length l - k) l) }

length_lowest : (k : ℕ) (l : List ℕ) → k ≤ length l → length (lowest k l) ≡ k
unfolding lowest
length_lowest k l h = simp length-drop (omega arith)

pub within_bound : (n r h : ℕ) → r ≤ n → r * (4 * h + 8) ≤ 4 * h * n + 8 * n
within_bound n r h p =
    let more : r * (4 * h + 8) ≤ n * (4 * h + 8) = mul-le-mul p (omega arith) in
    omega (arith, mul-add n (4 * h) 8, mul_comm n (4 * h))

-- From every store S each store G with the same numbers, floors and shafts beyond m is reached, however full they are.
pub reached_by_rounds : (m : ℕ) (d : ℕ → ℕ) (h : ℕ) → 3 ≤ m → ((i : ℕ) → Usable m i → 0 < d i) → ((i : ℕ) → Usable m i → d i ≤ h) → (S G : Stacks)
    → Within m d S → Within m d G → ((i : ℕ) → m ≤ i → S i ≡ G i) → ((c : ℕ) → occurrences m c S ≡ occurrences m c G)
    → ((i : ℕ) → i < m → lowest (d i - empties m d S) (S i) ≡ lowest (d i - empties m d S) (G i))
    → Reached m d S G (4 * h * total m S + 8 * total m S)
unfolding total
reached_by_rounds m d h three deep shallow S G S-within G-within beyond counts floors =
    reached_within (within_bound (total m S) (sum m (λ i. length (G i)) - sum m (λ i. length (P i))) h (omega (arith, same_total m S G counts)))
    (rounds m d e h three deep shallow G G-within _ S P
    (omega (arith, sum_le m (λ i. length (P i)) (λ i. length (G i)) (λ i p. onto_length (goal i))))
    record {
      passed = record {
        onto = λ i. top_on_lowest (d i - e) (S i);
        floor = λ i p. omega (arith, length_lowest (d i - e) (S i) (room m d S S-within i p));
        within = S-within;
        all = filled_and_empty m d S S-within;
      };
      goal = goal;
      counts = counts;
      beyond = beyond;
    })
  where
    e : ℕ
    e = empties m d S

    P : Stacks
    P i = lowest (d i - e) (S i)

    goal : (i : ℕ) → Onto (P i) (G i)
    goal i = elim (dec_lt i m) [
      | yes p ↦ rw (floors i p) (top_on_lowest (d i - e) (G i))
      | no p ↦ rw (beyond i (omega arith)) (top_on_lowest (d i - e) (G i))
    ]
