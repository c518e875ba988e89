-- Which number refuses a lift: each case of `refusal_by`, and what it says where it is 0.
use borrow.Author.Tests.{ltb-true, leb-false, eqb-false, lt-ltb, le-ltb, le-leb, lt-leb, eq-eqb, ne_eqb, not-true}
use mathlib.Core.Path.{◌≡◌}
use Prim.Native.Nat.{ℕ, ◌≤◌, ◌<◌}
use native.Mathlib.Omega.{arith}
use Rattle.std.proofs.lemmas.Bool.{and_parts}
use Rattle.marks.proofs.Faulted.{first_none, not_given, given_none}
use Rattle.lifts.specs.Lifting.{refusal_by}

module _ (m d a b left entered : ℕ) where
  pub left_past : m ≤ a → refusal_by m d a b left entered ≡ 11
  unfolding refusal_by
  left_past h = simp (le-ltb a m h)

  pub entered_past : a < m → m ≤ b → refusal_by m d a b left entered ≡ 11
  unfolding refusal_by
  entered_past i h = simp (lt-ltb a m i, le-ltb b m h)

  pub one_shaft_lem : a < m → b < m → a ≡ b → refusal_by m d a b left entered ≡ 11
  unfolding refusal_by
  one_shaft_lem i j h = simp (lt-ltb a m i, lt-ltb b m j, eq-eqb a b h)

  module _ (i : a < m) (j : b < m) (n : a ≡ b → ⊥) where
    pub left_empty : left ≡ 0 → refusal_by m d a b left entered ≡ 13
    unfolding refusal_by
    left_empty h = simp (lt-ltb a m i, lt-ltb b m j, ne_eqb a b n, eq-eqb left 0 h)

    pub entered_full : (left ≡ 0 → ⊥) → d ≤ entered → refusal_by m d a b left entered ≡ 14
    unfolding refusal_by
    entered_full h k = simp (lt-ltb a m i, lt-ltb b m j, ne_eqb a b n, ne_eqb left 0 h, le-leb d entered k)

    pub none_refused : (left ≡ 0 → ⊥) → entered < d → refusal_by m d a b left entered ≡ 0
    unfolding refusal_by
    none_refused h k = simp (lt-ltb a m i, lt-ltb b m j, ne_eqb a b n, ne_eqb left 0 h, lt-leb d entered k)

  -- a lift that is not refused
  pub refused_none : refusal_by m d a b left entered ≡ 0 → (a < m) × (b < m) × (a ≡ b → ⊥) × (0 < left) × (entered < d)
  unfolding refusal_by
  refused_none e =
      let p = first_none _ _ e in
      let q = first_none _ _ p.1 in
      let r = and_parts _ _ (not_given _ 10 p.0) in
      let t = and_parts _ _ r.0 in
      let n : left ≡ 0 → ⊥ = eqb-false left 0 (given_none _ 12 q.0) in
      (ltb-true a m t.0, ltb-true b m t.1, eqb-false a b (not-true _ r.1), omega arith, leb-false d entered (given_none _ 13 q.1))
