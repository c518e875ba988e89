-- One lift of a store and of the store of some of its shafts: a lift between two of these shafts is one of the other by their numbers, and a lift between
-- two others leaves them as they are.
use mathlib.Core.Bool.{true, false}
use mathlib.Core.Path.{◌≡◌, sym, ap, ◌∙◌, subst₂}
use Prim.Native.Nat.{ℕ, ◌<◌}
use native.Mathlib.Decide.{dec_lt}
use native.Mathlib.Omega.{arith}
use lib.ListN.{length}
use Rattle.stacks.specs.Run.{Step}
use Rattle.stacks.specs.Moves.{lift}
use Rattle.stacks.proofs.Deciding.{true_false}
use Rattle.store.specs.declared.Store.{Store}
use Rattle.store.specs.Slots.{depth, height, stack}
use Rattle.store.specs.Lifts.{Allowed, lifted}
use Rattle.store.specs.Sound.{Shaped}
use Rattle.store.proofs.Views.{at_and_elsewhere, lifted_shaped, lift_step}
use Rattle.sets.specs.Sets.{has, shafts_in}
use Rattle.sets.proofs.SetLaws.{PlacedAt, placed_shaft, shaft_placed}
use Rattle.parts.specs.PartOf.{named, PartOf}
use Rattle.parts.proofs.PartLaws.{none_named, part_heights}

module _ (some : ℕ) {s r : Store} (p : Shaped s) (q : PartOf some s r) where
  -- a shaft of the part is one of the set
  pub named_shaft : (a : ℕ) → a < r.m → PlacedAt some s.m a
  named_shaft a h = placed_shaft some s.m a (omega (arith, q.shafts))

  -- no other number has the same shaft
  named_other : (a i : ℕ) → a < r.m → (i ≡ a → ⊥) → named some s i ≡ named some s a → ⊥
  named_other a i h n e =
      elim (dec_lt i (length (shafts_in some s.m))) [
        | yes l ↦ n (sym (placed_shaft some s.m i l).place ∙ ap (λ (x : ℕ). length (shafts_in some x)) e ∙ (named_shaft a h).place)
        | no l ↦ omega (arith, none_named some s p i (omega arith), (named_shaft a h).below, p.shafts)
      ]

  -- a lift of the part is one of the store
  pub allowed_out : (a b : ℕ) → Allowed r a b → Allowed s (named some s a) (named some s b)
  allowed_out a b k = record {
    left_below = (named_shaft a k.left_below).below;
    entered_below = (named_shaft b k.entered_below).below;
    differ = named_other b a k.entered_below k.differ;
    taken = omega (arith, part_heights q a, k.taken);
    room = omega (arith, part_heights q b, q.depths b, k.room);
  }

  pub lifted_out : (a b : ℕ) → Allowed r a b → PartOf some (lifted s (named some s a) (named some s b)) (lifted r a b)
  unfolding lifted
  lifted_out a b k =
      let u : Step r.m (depth r) (lift a b) (stack r) (stack (lifted r a b)) = lift_step r a b q.shaped k in
      let v : Step s.m (depth s) (lift (named some s a) (named some s b)) (stack s) (stack (lifted s (named some s a) (named some s b)))
      = lift_step s (named some s a) (named some s b) p (allowed_out a b k) in
      record {
        shaped = lifted_shaped r a b q.shaped k;
        shafts = q.shafts;
        depths = q.depths;
        stacks = at_and_elsewhere (λ i. stack (lifted r a b) i ≡ stack (lifted s (named some s a) (named some s b)) (named some s i)) a b
            (cc (u.taken, v.taken, q.stacks a))
            (cc (u.placed, v.placed, q.stacks b, u.taken, v.taken, q.stacks a))
            (λ i m n. u.kept i m n ∙ q.stacks i ∙ sym (v.kept (named some s i) (named_other a i k.left_below m) (named_other b i k.entered_below n)));
      }

  -- a lift between two shafts of the set is one of the part
  module _ (x y : ℕ) (k : Allowed s x y) where
    module _ (i : has some x ≡ true) (j : has some y ≡ true) where
      x_placed : (length (shafts_in some x) < length (shafts_in some s.m)) × (named some s (length (shafts_in some x)) ≡ x)
      x_placed = shaft_placed some x s.m k.left_below i

      y_placed : (length (shafts_in some y) < length (shafts_in some s.m)) × (named some s (length (shafts_in some y)) ≡ y)
      y_placed = shaft_placed some y s.m k.entered_below j

      pub allowed_in : Allowed r (length (shafts_in some x)) (length (shafts_in some y))
      allowed_in = record {
        left_below = omega (arith, q.shafts, x_placed.0);
        entered_below = omega (arith, q.shafts, y_placed.0);
        differ = λ e. k.differ (sym x_placed.1 ∙ ap (named some s) e ∙ y_placed.1);
        taken = omega (arith, part_heights q (length (shafts_in some x)), ap (height s) x_placed.1, k.taken);
        room = omega (
          arith,
          part_heights q (length (shafts_in some y)),
          ap (height s) y_placed.1,
          q.depths (length (shafts_in some y)),
          ap (depth s) y_placed.1,
          k.room,
        );
      }

      pub lifted_in : PartOf some (lifted s x y) (lifted r (length (shafts_in some x)) (length (shafts_in some y)))
      lifted_in =
          subst₂ (λ (v w : ℕ). PartOf some (lifted s v w) (lifted r (length (shafts_in some x)) (length (shafts_in some y)))) x_placed.1 y_placed.1
          (lifted_out (length (shafts_in some x)) (length (shafts_in some y)) allowed_in)

    -- a lift between two other shafts leaves the part as it is
    pub lifted_elsewhere : has some x ≡ false → has some y ≡ false → PartOf some (lifted s x y) r
    unfolding lifted
    lifted_elsewhere i j =
        let other : (z n : ℕ) → z < s.m → has some z ≡ false → named some s n ≡ z → ⊥
        = λ z n h f e. elim (dec_lt n (length (shafts_in some s.m))) [
          | yes l ↦ true_false (sym (placed_shaft some s.m n l).in_set ∙ ap (has some) e ∙ f)
          | no l ↦ omega (arith, none_named some s p n (omega arith), p.shafts)
        ] in
        record {
          shaped = q.shaped;
          shafts = q.shafts;
          depths = q.depths;
          stacks = λ n. q.stacks n ∙ sym ((lift_step s x y p k).kept (named some s n) (other x n k.left_below i) (other y n k.entered_below j));
        }
