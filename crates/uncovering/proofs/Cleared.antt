-- What stands on a cassette can be lifted away, one after the other, where the empty slots of the other shafts hold it: a list that uncovers it.
use mathlib.Core.List.{List, [], ◌∷◌}
use mathlib.Core.Path.{◌≡◌, refl, sym, ap, ◌∙◌}
use Prim.Native.Nat.{ℕ, zero, suc, ◌+◌, ◌≤◌, ◌<◌}
use native.Mathlib.Omega.{arith}
use lib.ListN.{length}
use Rattle.stacks.specs.Count.{total}
use Rattle.stacks.specs.Moves.{lift}
use Rattle.stacks.proofs.Floors.{filled_and_empty}
use Rattle.stacks.proofs.Sums.{Less, some_other_less}
use Rattle.store.specs.declared.Store.{Store}
use Rattle.store.specs.Slots.{depth, height, slot, stack, empty_count}
use Rattle.store.specs.Lifts.{Allowed, lifted}
use Rattle.store.specs.Lists.{byte_of, ended}
use Rattle.store.specs.Sound.{Shaped}
use Rattle.store.proofs.Played.{lift_then}
use Rattle.store.proofs.Rows.{stack_length}
use Rattle.store.proofs.Views.{Moved, lift_moves, kept_rows, lifted_shaped}
use Rattle.reach.proofs.Agree.{shaped_within, empties_agree}
use Rattle.uncovering.specs.Uncovering.{Uncovers}
use Rattle.uncovering.proofs.Covered.{lifted_empty}

-- a list of k lifts that uncovers c
pub record Clearing (s : Store) (c k : ℕ) : Type 0 where
  pub list : List ℕ
  pub uncovers : Uncovers s c list
  pub count : length list ≡ k

-- another shaft has room, where what is empty above shaft x is not all
room_elsewhere : (s : Store) → Shaped s → (x : ℕ) → x < s.m → depth s x < height s x + empty_count s → Less s.m x (λ i. length (stack s i)) (depth s)
unfolding total
room_elsewhere s p x h i =
    some_other_less s.m x (λ i. length (stack s i)) (depth s) h
    (omega (arith, filled_and_empty s.m (depth s) (stack s) (shaped_within s p), empties_agree s, stack_length s x))

-- k cassettes stand on a c that is not too low
pub cleared : (k : ℕ) (s : Store) (c x y : ℕ) → Shaped s → x < s.m → 0 < y → k + y ≡ height s x → slot s x y ≡ c → depth s x ≤ y + empty_count s → Clearing s c k
unfolding lifted
cleared zero s c x y p h i e f d =
    let g : height s x ≡ y = omega arith in
    record {
      list = [];
      uncovers = record { reached = s; leads = ended; uncovered = record { shaft = x; below = h; some = omega arith; top = ap (slot s x) g ∙ f } };
      count = refl;
    }
cleared (suc k) s c x zero p h i e f d = absurd (omega arith)
cleared (suc k) s c x (suc y) p h i e f d =
    let r = room_elsewhere s p x h (omega arith) in
    let z = r.place in
    let q : Allowed s x z = record { left_below = h; entered_below = r.below; differ = λ j. r.other (sym j); taken = omega arith; room = omega (arith, r.less, stack_length s z) } in
    let v : Moved s x z (lifted s x z) = lift_moves s x z p q in
    let w = cleared k (lifted s x z) c x (suc y) (lifted_shaped s x z p q) h i (omega (arith, v.lower))
    (kept_rows s x z p q x y (omega arith) (omega (arith, v.lower)) ∙ f)
    (omega (arith, lifted_empty s x z p q)) in
    record {
      list = byte_of (lift x z) ∷ w.list;
      uncovers = record {
        reached = w.uncovers.reached;
        leads = lift_then s w.uncovers.reached (lift x z) w.list (omega (arith, r.below, p.shafts)) q w.uncovers.leads;
        uncovered = w.uncovers.uncovered;
      };
      count = ap suc {x = length w.list} w.count;
    }
