-- A walk without a fault met no number twice but the blank, and its cassettes are what slots may show; and where no number but the blank stands
-- twice, each row shows a cassette's number and no height passes the depth, the walk meets no fault.
use borrow.Author.Tests.{eq-eqb}
use mathlib.Core.Bool.{true, false}
use mathlib.Core.List.{List, [], ◌∷◌, ◌++◌, append-nil}
use mathlib.Core.Path.{◌≡◌, refl, ap, ◌∙◌}
use Prim.Native.Nat.{ℕ, zero, suc, ◌+◌, ◌*◌, ◌≤◌, ◌<◌}
use native.Mathlib.Decide.{dec_lt}
use native.Mathlib.Omega.{arith}
use lib.ListN.{get_or}
use Rattle.stacks.specs.Count.{count, one}
use Rattle.stacks.proofs.Counts.{count_append, count_last, Below}
use Rattle.stacks.proofs.Sums.{sum_none}
use Rattle.marks.specs.Cassettes.{numbers, is_blank, is_cassette, Once, cassette_fault}
use Rattle.marks.proofs.Faulted.{first_none}
use Rattle.marks.proofs.Takes.{taken_cassette, cassette_taken, once_more}
use Rattle.lifts.specs.Lifting.{shown}
use Rattle.store.specs.declared.Store.{Store}
use Rattle.store.specs.Slots.{depth, height, slot, upward, cassettes_below, cassettes}
use Rattle.rows.specs.Rows.{rows_up, rows_fault}
use Rattle.store.specs.Accept.{shaft_fault, shafts_fault}
use Rattle.rows.proofs.Upward.{none_shown}
use Rattle.rows.proofs.Walk.{row_after, row_passed}
use Rattle.store.proofs.Counted.{cassettes_added}
use Rattle.store.proofs.Walk.{shaft_passed, by_rows, not_too_high}

once_last : (l : List ℕ) (x : ℕ) → Once (l ++ (x ∷ [])) → is_blank x ≡ false → count x l ≡ 0
once_last l x p r = omega (arith, p x r, count_last x l x, ap one (eq-eqb x x refl))

once_front : (l r : List ℕ) → Once (l ++ r) → Once l
once_front l r p c m = omega (arith, p c m, count_append c l r)

module _ (s : Store) where
  -- rows without a fault add no number twice to what stood before, but for the blank
  rows_once : (before : List ℕ) (x k : ℕ) → rows_fault before s.slots x k ≡ 0 → Once before → Once (before ++ upward s x k)
  unfolding rows_fault rows_up
  rows_once before x zero e p = rw (append-nil before) p
  rows_once before x (suc k) e p =
      let f = first_none (rows_fault before s.slots x k) (cassette_fault (before ++ upward s x k) (slot s x (suc k))) e in
      rw (← row_after before s.slots x k)
      (once_more (before ++ upward s x k) (slot s x (suc k)) (rows_once before x k f.0 p) (taken_cassette _ _ f.1).1)

  -- a walk without a fault met no number twice but the blank
  pub walked_once : (x : ℕ) → shafts_fault s x ≡ 0 → Once (cassettes_below s x)
  unfolding shafts_fault cassettes_below count
  walked_once zero e c r = omega arith
  walked_once (suc x) e c r =
      let f = first_none (shafts_fault s x) (shaft_fault s x) e in
      rows_once (cassettes_below s x) x (height s x) (not_too_high s x f.1).1 (walked_once x f.0) c r

  -- where each row shows a cassette's number and none but the blank stands twice, no row has a fault
  rows_pass : (before : List ℕ) (x k : ℕ) → ((j : ℕ) → j < k → is_cassette (slot s x (suc j)) ≡ true) → Once (before ++ upward s x k) → rows_fault before s.slots x k ≡ 0
  unfolding rows_fault
  rows_pass before x zero n p = refl
  rows_pass before x (suc k) n p =
      let q : Once ((before ++ upward s x k) ++ (slot s x (suc k) ∷ [])) = rw (row_after before s.slots x k) p in
      row_passed before s.slots x k (rows_pass before x k (λ j h. n j (omega arith)) (once_front (before ++ upward s x k) _ q))
      (cassette_taken (before ++ upward s x k) (slot s x (suc k)) (n k (omega arith)) (once_last _ _ q))

  -- and where besides no height passes the depth, no shaft has one
  pub once_walks : (x : ℕ) → ((y : ℕ) → height s y ≤ depth s y) → ((y k : ℕ) → k < height s y → is_cassette (slot s y (suc k)) ≡ true)
      → Once (cassettes_below s x) → shafts_fault s x ≡ 0
  unfolding shafts_fault cassettes_below
  once_walks zero h n p = refl
  once_walks (suc x) h n p =
      shaft_passed s x (once_walks x h n (once_front (cassettes_below s x) (upward s x (height s x)) p))
      (by_rows s x (h x) ∙ rows_pass (cassettes_below s x) x (height s x) (n x) p)

-- a number that no row up to a height shows stands nowhere
none_stands : (s : Store) (c : ℕ) → ((x k : ℕ) → k < height s x → slot s x (suc k) ≡ c → ⊥) → count c (cassettes s) ≡ 0
unfolding count
none_stands s c f =
    cassettes_added s (count c) refl (count_append c) ∙ sum_none s.m _ (λ x _. none_shown s.slots x c (height s x) (f x))

-- the cassettes of a store are what its slots may show
pub cassettes_below_lem : (s : Store) → ((i : ℕ) → get_or s.slots i 0 < numbers) → Below numbers (cassettes s)
unfolding shown
cassettes_below_lem s b c h =
    elim (dec_lt c numbers) [
      | yes i ↦ i
      | no i ↦ absurd (omega (arith, none_stands s c (λ y k l e. omega (arith, b (16 * y + k)))))
    ]
