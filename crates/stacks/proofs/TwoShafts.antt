-- One shaft has no legal lift. With two shafts every legal list keeps the reading, and one shift leads from a store to any store that reads the
-- same.
use mathlib.Core.Path.{◌≡◌, refl, ap, sym, ◌∙◌, subst, fun_ext}
use mathlib.Core.List.{List, [], ◌∷◌, ◌++◌, reverse_aux, reverse_aux-append, reverse_aux-reverse_aux-nil}
use Prim.Native.Nat.{ℕ, zero, suc, ◌+◌, ◌-◌, ◌<◌, ◌≤◌}
use native.Mathlib.Decide.{dec_le}
use native.Mathlib.Omega.{arith}
use lib.ListN.{length, take, drop, take-append-drop, length-drop, length-replicate, length-reverse_aux}
use lib.Seq.{length-take-le}
use Rattle.stacks.specs.Run.{Stacks, Lift, Step, Run, done, step, Within, Reached}
use Rattle.stacks.specs.Moves.{lift, shift}
use Rattle.stacks.specs.TwoStackReading.{two_stack_reading}
use Rattle.stacks.proofs.Sums.{everywhere}
use Rattle.stacks.proofs.Stores.{put_two, put_two_first, put_two_second, put_two_other}

-- With one shaft nothing moves.
pub one_shaft_lem : {d : ℕ → ℕ} {S T : Stacks} {ls : List Lift} → Run 1 d S ls T → S ≡ T
one_shaft_lem done = refl
one_shaft_lem (step s r) = absurd (omega arith)

-- A legal lift of two shafts moves one cassette over the seam of the reading.
step_reading : {d : ℕ → ℕ} {S T : Stacks} (a b : ℕ) → Step 2 d (lift a b) S T → two_stack_reading S ≡ two_stack_reading T
unfolding two_stack_reading
step_reading zero zero s = absurd (omega arith)
step_reading zero (suc zero) s = rw (s.taken, s.placed)
step_reading zero (suc (suc b)) s = absurd (omega arith)
step_reading (suc zero) zero s = rw (s.taken, s.placed)
step_reading (suc zero) (suc b) s = absurd (omega arith)
step_reading (suc (suc a)) b s = absurd (omega arith)

-- Every legal list of two shafts keeps the reading.
pub reading_kept : {d : ℕ → ℕ} {S T : Stacks} {ls : List Lift} → Run 2 d S ls T → two_stack_reading S ≡ two_stack_reading T
reading_kept done = refl
reading_kept (step {l = l} s r) = step_reading l.left l.entered s ∙ reading_kept r

-- Two readings that are the same, with seams at the same place, have the same parts.
same_parts : (u v r s : List ℕ) → length u ≡ length r → reverse_aux u v ≡ reverse_aux r s → (u ≡ r) × (v ≡ s)
same_parts [] v [] s n e = (refl, e)
same_parts [] v (y ∷ r) s n e = absurd (omega arith)
same_parts (x ∷ u) v [] s n e = absurd (omega arith)
same_parts (x ∷ u) v (y ∷ r) s n e = let p = same_parts u (x ∷ v) r (y ∷ s) (omega arith) e in (cc (p.0, p.1), cc p.1)

-- A shift leads to any stacks in which the cassettes xs, the top of a, stand turned over on b.
shift_leads : {m a b : ℕ} {d : ℕ → ℕ} {S T : Stacks} → (a ≡ b → ⊥) → a < m → b < m → (xs : List ℕ) → S a ≡ xs ++ T a → T b ≡ reverse_aux xs (S b)
    → length (T b) ≤ d b → ((i : ℕ) → (i ≡ a → ⊥) → (i ≡ b → ⊥) → T i ≡ S i) → Run m d S (shift (length xs) a b) T
shift_leads {m} {a} {b} {d} {S} {T} n ha hb [] ea eb h kept =
    subst (Run m d S []) (fun_ext (everywhere _ a ea (everywhere _ b (λ _. sym eb) (λ i nb na. sym (kept i na nb))))) done
shift_leads {a = a} {b} {S = S} {T} n ha hb (x ∷ xs) ea eb h kept =
    let ua = put_two_first S a (xs ++ T a) b (x ∷ S b) n in
    let ub = put_two_second S a (xs ++ T a) b (x ∷ S b) in
    let others = put_two_other S a (xs ++ T a) b (x ∷ S b) in
    step {S = S} {T = put_two S a (xs ++ T a) b (x ∷ S b)} {l = lift a b}
    (record {
      differ = n;
      left_below = ha;
      entered_below = hb;
      cassette = x;
      taken = ea ∙ ap (λ (l : List ℕ). x ∷ l) (sym ua);
      placed = ub;
      room = omega (arith, simp length-reverse_aux at (ap length eb));
      kept = others;
    })
    (shift_leads {S = put_two S a (xs ++ T a) b (x ∷ S b)} n ha hb xs ua (rw ub eb) h (λ i na nb. kept i na nb ∙ sym (others i na nb)))

-- Where a and b read the same in S and in T, a has k more in S, and the other shafts are the same, k lifts from a to b lead from S to T.
pub shift_along : {m a b : ℕ} {d : ℕ → ℕ} {S T : Stacks} (k : ℕ) → (a ≡ b → ⊥) → a < m → b < m → length (S a) ≡ k + length (T a)
    → reverse_aux (S a) (S b) ≡ reverse_aux (T a) (T b) → length (T b) ≤ d b → ((i : ℕ) → (i ≡ a → ⊥) → (i ≡ b → ⊥) → T i ≡ S i)
    → Run m d S (shift k a b) T
shift_along {a = a} {b} {d} {S} {T} k n ha hb more same fits kept =
    let cut : take k (S a) ++ drop k (S a) ≡ S a = take-append-drop k (S a) in
    let moved : reverse_aux (drop k (S a)) (reverse_aux (take k (S a)) (S b)) ≡ reverse_aux (T a) (T b) = rw (← reverse_aux-append, cut) same in
    let parts : (drop k (S a) ≡ T a) × (reverse_aux (take k (S a)) (S b) ≡ T b) = same_parts _ _ _ _ (rw length-drop (omega arith)) moved in
    let long : k ≤ length (S a) = omega arith in
    rw length-take-le at (shift_leads {d = d} n ha hb (take k (S a)) (cc) (cc) fits kept)

module _ {d : ℕ → ℕ} {S T : Stacks} (k : ℕ) (within : Within 2 d T) (outside : (i : ℕ) → 2 ≤ i → S i ≡ T i) (same : two_stack_reading S ≡ two_stack_reading T) where
  -- Two shafts that read the same, with k more in shaft 0 at the start: k lifts from 0 to 1.
  pub two_shift : length (S 0) ≡ k + length (T 0) → Run 2 d S (shift k 0 1) T
  unfolding two_stack_reading
  two_shift more =
      shift_along k (omega arith) (omega arith) (omega arith) more same (within 1 (omega arith)) (λ i n₀ n₁. sym (outside i (omega arith)))

  -- The same with k more in shaft 0 at the end: k lifts from 1 to 0.
  pub two_unshift : length (T 0) ≡ k + length (S 0) → Run 2 d S (shift k 1 0) T
  unfolding two_stack_reading
  two_unshift more =
      shift_along k (omega arith) (omega arith) (omega arith) (omega (arith, simp length-reverse_aux at (ap length same)))
      (sym (reverse_aux-reverse_aux-nil (S 0) (S 1)) ∙ rw same (reverse_aux-reverse_aux-nil (T 0) (T 1))) (within 0 (omega arith))
      (λ i n₁ n₀. sym (outside i (omega arith)))

-- Two stores of two shafts that read the same are at most as many lifts apart as there are cassettes.
pub two_reached : {d : ℕ → ℕ} {S T : Stacks} → Within 2 d T → ((i : ℕ) → 2 ≤ i → S i ≡ T i) → two_stack_reading S ≡ two_stack_reading T
    → Reached 2 d S T (length (S 0) + length (S 1))
unfolding two_stack_reading
two_reached {d} {S} {T} within outside same = elim (dec_le (length (T 0)) (length (S 0))) [
  | yes h ↦ record {
    lifts = _;
    runs = two_shift (length (S 0) - length (T 0)) within outside same (omega arith);
    short = rw length-replicate (omega arith);
  }
  | no h ↦ record {
    lifts = _;
    runs = two_unshift (length (T 0) - length (S 0)) within outside same (omega arith);
    short = rw length-replicate (omega (arith, simp length-reverse_aux at (ap length same)));
  }
]
