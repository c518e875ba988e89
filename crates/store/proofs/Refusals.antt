-- A lift is not refused exactly where it is allowed.
use mathlib.Core.Path.{◌≡◌}
use Prim.Native.Nat.{ℕ}
use native.Mathlib.Omega.{arith}
use Rattle.lifts.proofs.Judging.{none_refused, refused_none}
use Rattle.store.specs.declared.Store.{Store}
use Rattle.store.specs.Slots.{depth, height}
use Rattle.store.specs.Lifts.{Allowed, lift_refusal}

module _ (s : Store) (a b : ℕ) where
  pub allowed_none : Allowed s a b → lift_refusal s a b ≡ 0
  unfolding lift_refusal
  allowed_none h =
      none_refused s.m (depth s b) a b (height s a) (height s b) h.left_below h.entered_below h.differ (omega arith) h.room

  pub none_allowed : lift_refusal s a b ≡ 0 → Allowed s a b
  unfolding lift_refusal
  none_allowed e =
      let p = refused_none s.m (depth s b) a b (height s a) (height s b) e in
      record { left_below = p.0; entered_below = p.1; differ = p.2; taken = p.3; room = p.4 }
