-- No list uncovers a cassette sooner than by what stands on it, and none one that lies too low: a lift takes away one of what stands on it at most, and moves
-- no cassette that is covered. Each shaft has its own depth, and numbers may repeat.
use mathlib.Core.List.{List, []}
use mathlib.Core.Path.{◌≡◌, sym, ◌∙◌}
use Prim.Native.Nat.{ℕ, zero, suc, ◌+◌, ◌≤◌, ◌<◌}
use native.Mathlib.Decide.{dec_lt}
use native.Mathlib.Omega.{arith}
use lib.ListN.{length}
use Rattle.stacks.specs.Moves.{lift}
use Rattle.stacks.proofs.Floors.{room}
use Rattle.lifts.specs.Bytes.{left, entered}
use Rattle.store.specs.declared.Store.{Store}
use Rattle.store.specs.Slots.{depth, height, slot, stack, empty_count, cassette_count}
use Rattle.store.specs.Lifts.{Allowed, lifted}
use Rattle.store.specs.Lists.{Leads, ended, then}
use Rattle.store.specs.Sound.{Shaped}
use Rattle.store.proofs.Played.{lift_then}
use Rattle.store.proofs.Rows.{stack_length}
use Rattle.store.proofs.Views.{Moved, lift_moves, at_and_elsewhere, kept_rows, lifted_shaped}
use Rattle.reach.proofs.Agree.{shaped_within, empties_agree}
use Rattle.reach.proofs.Lasting.{leads_count}
use Rattle.uncovering.specs.Nearest.{Place, Under}
use Rattle.uncovering.specs.Uncovering.{Uncovered}

-- what is empty above a shaft is part of e
empty_above : (s : Store) → Shaped s → (x : ℕ) → x < s.m → depth s x ≤ height s x + empty_count s
empty_above s p x h = omega (arith, room s.m (depth s) (stack s) (shaped_within s p) x h, empties_agree s, stack_length s x)

-- a lift keeps e
pub lifted_empty : (s : Store) (a b : ℕ) → Shaped s → Allowed s a b → empty_count (lifted s a b) ≡ empty_count s
unfolding empty_count lifted
lifted_empty s a b p q =
    let e : cassette_count (lifted s a b) ≡ cassette_count s = leads_count p (lift_then s (lifted s a b) (lift a b) [] (omega (arith, q.entered_below, p.shafts)) q ended) in rw e

-- a place of the store that shows c
abbrev placed : (s : Store) {c : ℕ} (x y : ℕ) → x < s.m → 0 < y → y ≤ height s x → slot s x y ≡ c → Place 0 s.m s c
placed s x y h i j e = record { stands = record { shaft = x; row = y; below = h; from_one = i; held = j; shows = e }; from = omega arith; to = h }

module _ (s : Store) (a b : ℕ) (p : Shaped s) (q : Allowed s a b) where
  abbrev t : Store
  t = lifted s a b

  moved : Moved s a b t
  moved = lift_moves s a b p q

  -- a height falls by one at most
  lower_by_one : (x : ℕ) → height s x ≤ suc (height t x)
  lower_by_one = at_and_elsewhere (λ x. height s x ≤ suc (height t x)) a b (omega (arith, moved.lower)) (omega (arith, moved.higher)) (λ x i j. omega (arith, moved.others x i j))

  -- what a row shows after the lift, it showed before, or it is the cassette lifted
  data Shown (x y : ℕ) : Type 0 where
    before : y ≤ height s x → slot t x y ≡ slot s x y → Shown x y
    lifted_here : slot t x y ≡ slot s a (height s a) → Shown x y

  kept : (x k : ℕ) → k < height s x → k < height t x → Shown x (suc k)
  kept x k h i = before h (kept_rows s a b p q x k h i)

  shown_after : (x k : ℕ) → k < height t x → Shown x (suc k)
  shown_after =
      at_and_elsewhere (λ x. (k : ℕ) → k < height t x → Shown x (suc k)) a b
      (λ k i. kept a k (omega (arith, moved.lower)) i)
      (λ k i. elim (dec_lt k (height s b)) [
        | yes l ↦ kept b k l i
        | no l ↦ (let e : k ≡ height s b = omega (arith, moved.higher) in lifted_here (rw e moved.placed))
      ])
      (λ x m n k i. kept x k (omega (arith, moved.others x m n)) i)

  lift_under : (c k : ℕ) → Under 0 s.m s c (suc k) → Under 0 t.m t c k
  unfolding lifted
  lift_under c k u w i = go w.stands.row w.stands.from_one w.stands.held w.stands.shows i
    where
      x : ℕ
      x = w.stands.shaft

      go : (y : ℕ) → 0 < y → y ≤ height t x → slot t x y ≡ c → depth t x ≤ y + empty_count t → k + y ≤ height t x
      go zero h j e f = absurd (omega arith)
      go (suc y) h j e f = by (shown_after x y j)
        where
          by : Shown x (suc y) → k + suc y ≤ height t x
          by (before l r) = omega (arith, lower_by_one x, u (placed s x (suc y) w.stands.below h l (sym r ∙ e)) (omega (arith, lifted_empty s a b p q)))
          by (lifted_here r) = absurd (omega (arith, u (placed s a (height s a) q.left_below q.taken (omega arith) (sym r ∙ e)) (empty_above s p a q.left_below)))

-- A list that uncovers c has k lifts at least, where k cassettes stand on each c that is not too low.
pub none_sooner : {s t : Store} {bs : List ℕ} {c : ℕ} → Shaped s → Leads s bs t → Uncovered t c → (k : ℕ) → Under 0 s.m s c k → k ≤ length bs
none_sooner {s} p ended w k u = omega (arith, u (placed s w.shaft (height s w.shaft) w.below w.some (omega arith) w.top) (empty_above s p w.shaft w.below))
none_sooner p (then q r) w zero u = omega arith
none_sooner p (then {s} {t} {b} {bs} q r) w (suc k) u = omega (arith, none_sooner (lifted_shaped s (left b) (entered b) p q) r w k (lift_under s (left b) (entered b) p q _ k u))
