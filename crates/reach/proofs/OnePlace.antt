-- No cassette but the blank stands twice in a store (request 5/13): an accepted store shows any other number in one place at most.
use borrow.Author.Tests.{eq-eqb}
use mathlib.Core.Bool.{false}
use mathlib.Core.Path.{◌≡◌, refl, sym, ap, ◌∙◌}
use Prim.Native.Nat.{ℕ, zero, suc, ◌/◌, ◌%◌, ◌≤◌, ◌<◌}
use native.Mathlib.Decide.{ℕ_discrete, dec_lt}
use native.Mathlib.Nat.{div-add-mod}
use native.Mathlib.Omega.{arith}
use lib.ListN.{get_or}
use Rattle.stacks.specs.Count.{one, count, sum, occurrences}
use Rattle.stacks.proofs.Sums.{term_le_sum, sum_le_outside_two}
use Rattle.marks.specs.Cassettes.{is_blank}
use Rattle.lifts.specs.Lifting.{slot_count, shown}
use Rattle.rows.specs.Rows.{rows_down}
use Rattle.store.specs.declared.Store.{Store}
use Rattle.store.specs.Slots.{height, slot, downward, stack}
use Rattle.store.specs.Accept.{Accepted}
use Rattle.store.proofs.Acceptance.{accepted_shaped, accepted_sound}
use Rattle.store.proofs.Views.{holds_below}
use Rattle.reach.proofs.Agree.{occurrences_agree}
use Rattle.reach.proofs.Lasting.{row_counted}

module _ (s : Store) (p : Accepted s) (c : ℕ) (b : is_blank c ≡ false) where
  -- how often c stands in the rows of a shaft
  abbrev in_shaft : ℕ → ℕ
  in_shaft x = count c (stack s x)

  stands_once : sum s.m in_shaft ≤ 1
  unfolding occurrences
  stands_once = omega (arith, occurrences_agree s c, (accepted_sound s p).once c b)

  -- two rows of a shaft that show c count twice
  rows_twice : (x n j k : ℕ) → j < k → k < n → slot s x (suc j) ≡ c → slot s x (suc k) ≡ c → 1 < count c (downward s x n)
  unfolding rows_down count
  rows_twice x zero j k h i e f = absurd (omega arith)
  rows_twice x (suc n) j k h i e f =
      elim (ℕ_discrete k n) [
        | yes g ↦ (let f' : c ≡ slot s x (suc n) = rw g at (sym f) in omega (arith, ap one (eq-eqb c (slot s x (suc n)) f'), row_counted s c x n j (omega arith) e))
        | no g ↦ omega (arith, rows_twice x n j k h (omega arith) e f)
      ]

  -- a shaft that shows c counts, and shows it in one row
  counted : (x j : ℕ) → j < height s x → slot s x (suc j) ≡ c → 0 < in_shaft x
  unfolding stack
  counted x j i e = row_counted s c x (height s x) j i e

  not_above : (x j k : ℕ) → x < s.m → j < k → k < height s x → slot s x (suc j) ≡ c → slot s x (suc k) ≡ c → ⊥
  unfolding stack
  not_above x j k h l i e f = omega (arith, stands_once, term_le_sum s.m in_shaft x h, rows_twice x (height s x) j k l i e f)

  one_row : (x j k : ℕ) → x < s.m → j < height s x → k < height s x → slot s x (suc j) ≡ c → slot s x (suc k) ≡ c → j ≡ k
  one_row x j k h i l e f =
      elim (dec_lt j k) [
        | yes u ↦ absurd (not_above x j k h u l e f)
        | no u ↦ elim (dec_lt k j) [ yes v ↦ absurd (not_above x k j h v i f e) | no v ↦ omega arith ]
      ]

  one_shaft_lem : (x j y k : ℕ) → x < s.m → y < s.m → j < height s x → k < height s y → slot s x (suc j) ≡ c → slot s y (suc k) ≡ c → x ≡ y
  one_shaft_lem x j y k h g i l e f =
      elim (ℕ_discrete x y) [
        | yes u ↦ u
        | no u ↦ absurd (omega (
          arith,
          stands_once,
          counted x j i e,
          counted y k l f,
          sum_le_outside_two s.m (λ i. 0) in_shaft x y u h g (λ i n v w. omega arith),
        ))
      ]

  -- so the places where it stands are the same
  one_place : (x j y k : ℕ) → x < s.m → y < s.m → j < height s x → k < height s y → slot s x (suc j) ≡ c → slot s y (suc k) ≡ c → (x ≡ y) × (j ≡ k)
  one_place x j y k h g i l e f =
      let u = one_shaft_lem x j y k h g i l e f in
      (u, one_row x j k h i (rw u l) e (rw u f))

  -- by its place in the slots
  at_place : (i : ℕ) → slot s (i / 16) (suc (i % 16)) ≡ get_or s.slots i 0
  unfolding shown
  at_place i = rw div-add-mod refl

  -- a slot that isn't empty is one of a shaft, up to its height
  place_held : (i : ℕ) → i < slot_count → (get_or s.slots i 0 ≡ 0 → ⊥) → (i / 16 < s.m) × (i % 16 < height s (i / 16))
  place_held i h n =
      elim (dec_lt (i % 16) (height s (i / 16))) [
        | yes u ↦ (holds_below s (i / 16) (accepted_shaped s p) (omega arith), u)
        | no u ↦ absurd (n (sym (at_place i) ∙ (accepted_shaped s p).none_above (i / 16) (i % 16) (omega arith) (omega arith) (omega arith)))
      ]

  pub one_slot : (c ≡ 0 → ⊥) → (i j : ℕ) → i < slot_count → j < slot_count → get_or s.slots i 0 ≡ c → get_or s.slots j 0 ≡ c → i ≡ j
  one_slot n i j h l e f =
      let u = place_held i h (λ z. n (sym e ∙ z)) in
      let v = place_held j l (λ z. n (sym f ∙ z)) in
      let r = one_place (i / 16) (i % 16) (j / 16) (j % 16) u.0 v.0 u.1 v.1 (at_place i ∙ e) (at_place j ∙ f) in
      omega (arith, r.0, r.1)
