-- The walk over the shafts in the order of an image: a fault once met stays the first, and a walk without a fault met none.
use borrow.Author.Tests.{ltb-false, lt-ltb, le-ltb}
use mathlib.Core.Path.{◌≡◌, refl, ◌∙◌}
use Prim.Native.Nat.{ℕ, suc, ◌≤◌, ◌<◌}
use Rattle.marks.specs.Cassettes.{first}
use Rattle.marks.proofs.Faulted.{first_none, given_none}
use Rattle.store.specs.declared.Store.{Store}
use Rattle.store.specs.Slots.{depth, height, cassettes_below}
use Rattle.rows.specs.Rows.{rows_fault}
use Rattle.store.specs.Accept.{shaft_fault, shafts_fault}
use Rattle.rows.proofs.Walk.{met, here, none}

module _ (s : Store) where
  shaft_more : (x : ℕ) → shafts_fault s (suc x) ≡ first (shafts_fault s x) (shaft_fault s x)
  unfolding shafts_fault
  shaft_more x = refl

  pub shaft_met : (x j v : ℕ) → shafts_fault s x ≡ 0 → shaft_fault s x ≡ v → (v ≡ 0 → ⊥) → x < j → shafts_fault s j ≡ v
  shaft_met = met (shafts_fault s) (shaft_fault s) shaft_more

  pub shaft_passed : (x : ℕ) → shafts_fault s x ≡ 0 → shaft_fault s x ≡ 0 → shafts_fault s (suc x) ≡ 0
  shaft_passed x e g = here (shafts_fault s) (shaft_fault s) shaft_more x e ∙ g

  pub shaft_none : (x j : ℕ) → shafts_fault s j ≡ 0 → x < j → shaft_fault s x ≡ 0
  shaft_none = none (shafts_fault s) (shaft_fault s) shaft_more

module _ (s : Store) (x : ℕ) where
  pub too_high : depth s x < height s x → shaft_fault s x ≡ 3
  too_high h = simp (lt-ltb (depth s x) (height s x) h)

  pub by_rows : height s x ≤ depth s x → shaft_fault s x ≡ rows_fault (cassettes_below s x) s.slots x (height s x)
  by_rows h = simp (le-ltb (depth s x) (height s x) h)

  pub not_too_high : shaft_fault s x ≡ 0 → (height s x ≤ depth s x) × (rows_fault (cassettes_below s x) s.slots x (height s x) ≡ 0)
  not_too_high e = let p = first_none _ _ e in (ltb-false (depth s x) (height s x) (given_none _ 2 p.0), p.1)
