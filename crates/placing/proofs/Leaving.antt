-- A cassette on its way out of its own shaft: what holds before each lift, and that the lift keeps it.
use mathlib.Core.List.{List, ◌∷◌}
use mathlib.Core.Logic.{◌≢◌, Ne-symm}
use mathlib.Core.Path.{◌≡◌, refl, sym, ap, ◌∙◌}
use Prim.Native.Nat.{ℕ, suc, ◌+◌, ◌-◌, ◌≤◌, ◌<◌}
use native.Mathlib.Omega.{arith}
use lib.ListN.{length}
use Rattle.stacks.specs.Run.{Stacks}
use Rattle.stacks.specs.Placing.{Passed, Over, Outside}
use Rattle.stacks.proofs.Bottoms.{onto_same, onto_length}
use Rattle.stacks.proofs.Sums.{everywhere}
use Rattle.stacks.proofs.Stores.{put, put_same, put_other}
use Rattle.stacks.proofs.RoundLaws.{off}
use Rattle.stacks.proofs.PlacingLaws.{passed_step, over_step, taken_is, left_lower, entered_higher}
use Rattle.store.specs.declared.Store.{Store}
use Rattle.store.specs.Slots.{height, slot, downward, stack}
use Rattle.store.specs.Sound.{Shaped}
use Rattle.store.specs.Lifts.{Allowed}
use Rattle.store.proofs.Rows.{downward_length, stack_length, stack_top}
use Rattle.reach.proofs.Agree.{shaped_within}
use Rattle.moves.specs.Put.{PutIs}
use Rattle.moves.specs.Written.{Steps}
use Rattle.moves.proofs.Stepping.{steps_none, steps_then}
use Rattle.moves.proofs.Carrying.{CarriedOn, carried_on}
use Rattle.rooms.specs.declared.Frame.{Frame}
use Rattle.placing.specs.declared.leave.Off.{Off}
use Rattle.lifts.specs.Lifting.{height_in}
use Rattle.rooms.specs.Frames.{store_of, depth_in, Fits, Held}
use Rattle.rooms.specs.Rooms.{SomeOutside}
use Rattle.placing.specs.Left.{CanLeave, LeftIs}
use Rattle.rooms.proofs.Bottoms.{stack_onto, row_onto, shaped_fits, one_room}

-- what stays of a store while the cassette of row y of b leaves it: the rows under it, and every other shaft
pub staying : Store → ℕ → ℕ → Stacks
staying s b y = put (stack s) b (downward s b (y - 1))

pub record Leaving (f : Frame) (heights₀ slots₀ : List ℕ) (b y at₀ : ℕ) (came heights slots : List ℕ) (at : ℕ) (out : List ℕ) : Type 0 where
  pub passed : Passed f.m (depth_in f) f.e (staying (store_of f heights₀ slots₀) b y) (stack (store_of f heights slots))
  pub over : Over (staying (store_of f heights₀ slots₀) b y) (stack (store_of f heights slots)) (slot (store_of f heights₀ slots₀) b y) b (downward (store_of f heights₀ slots₀) b (y - 1))
  pub covered : y ≤ height_in heights b
  pub steps : Steps (store_of f heights₀ slots₀) at₀ came (store_of f heights slots) at out
  pub shaped : Shaped (store_of f heights slots)
  pub sized : length out ≡ length came
  pub fits : at + (height_in heights b + 1 - y) ≤ at₀ + (height_in heights₀ b + 1 - y)

module _ (f : Frame) (heights slots : List ℕ) (b y : ℕ) where
  staying_same : staying (store_of f heights slots) b y b ≡ downward (store_of f heights slots) b (y - 1)
  unfolding staying
  staying_same = put_same (stack (store_of f heights slots)) b _

  staying_other : (x : ℕ) → x ≢ b → staying (store_of f heights slots) b y x ≡ stack (store_of f heights slots) x
  unfolding staying
  staying_other = put_other (stack (store_of f heights slots)) b _

  length_same : length (staying (store_of f heights slots) b y b) ≡ y - 1
  length_same = ap length staying_same ∙ downward_length (store_of f heights slots) b (y - 1)

  pub leaving_first : Held f heights slots → CanLeave f heights b y → (at : ℕ) (came : List ℕ) → Leaving f heights slots b y at came heights slots at came
  leaving_first h q at came = record {
    passed = record {
      onto = everywhere _ b (rw staying_same (stack_onto (store_of f heights slots) b (y - 1) (omega (arith, q.stands)))) (λ x n. onto_same (sym (staying_other x n)));
      floor = everywhere _ b (λ _. omega (arith, length_same, q.floor, q.row)) (λ x n u. rw (staying_other x n) (one_room f heights slots h x u));
      within = shaped_within (store_of f heights slots) h.shaped;
      all = h.all;
    };
    over = record {
      stands = row_onto (store_of f heights slots) b y q.row q.stands;
      unpassed = omega (arith, length_same, downward_length (store_of f heights slots) b (y - 1));
    };
    covered = q.stands;
    steps = steps_none (store_of f heights slots) at came;
    shaped = h.shaped;
    sized = refl;
    fits = omega arith;
  }

module _ {f : Frame} {heights₀ slots₀ : List ℕ} {b y at₀ : ℕ} {came heights slots : List ℕ} {at : ℕ} {out : List ℕ} (q : CanLeave f heights₀ b y)
    (h : at₀ + (height_in heights₀ b + 1 - y) ≤ length came) (u : Leaving f heights₀ slots₀ b y at₀ came heights slots at out)
  where
    pub aside_ready : Fits f heights × SomeOutside f heights b b
    aside_ready = (
      shaped_fits f heights slots u.shaped,
      λ none.
          let c = off q.usable u.passed u.over in
          none c.place (record { usable = c.below; not_first = c.other; not_second = c.other; room = rw stack_length at c.less }),
    )

    room_left : at < length out
    room_left = omega (arith, h, u.fits, u.sized, u.covered)

    module _ {c : ℕ} (o : Outside f.m (depth_in f) b b (height_in heights) c) where
      allowed : Allowed (store_of f heights slots) b c
      allowed = record { left_below = q.usable; entered_below = o.usable; differ = Ne-symm o.not_first; taken = omega (arith, u.covered, q.row); room = o.room }

      module _ {heights' slots' : List ℕ} {at' : ℕ} {out' : List ℕ} (r : PutIs heights slots b c at out heights' slots' at' out') where
        on : CarriedOn (store_of f heights slots) b c at out (store_of f heights' slots') at' out'
        on = carried_on f.m f.depths u.shaped allowed room_left r

        lower : height_in heights b ≡ suc (height_in heights' b)
        lower = simp stack_length at (left_lower on.moved)

        under : length (downward (store_of f heights₀ slots₀) b (y - 1)) ≡ y - 1
        under = downward_length (store_of f heights₀ slots₀) b (y - 1)

        still : Passed f.m (depth_in f) f.e (staying (store_of f heights₀ slots₀) b y) (stack (store_of f heights' slots'))
        still = passed_step u.passed on.moved (omega (arith, u.over.unpassed, under, u.covered, q.row, stack_length (store_of f heights slots) b))

        all_steps : Steps (store_of f heights₀ slots₀) at₀ came (store_of f heights' slots') at' out'
        all_steps = steps_then u.steps on.went.steps (omega (arith, on.went.few, room_left, u.sized))

        -- one that covered it is off
        pub leaving_next : y < height_in heights b → Leaving f heights₀ slots₀ b y at₀ came heights' slots' at' out' × (height_in heights' b < height_in heights b)
        leaving_next z = (
          record {
            passed = still;
            over = over_step u.over on.moved (λ _. omega (arith, under, stack_length (store_of f heights slots) b));
            covered = omega (arith, lower);
            steps = all_steps;
            shaped = on.went.shaped;
            sized = on.went.room ∙ u.sized;
            fits = omega (arith, on.went.few, lower, u.fits);
          },
          omega (arith, lower),
        )

    -- it is off itself
    pub left_last : (w : Off) (o : Outside f.m (depth_in f) b b (height_in heights) w.at.shaft.0) {heights' slots' out' : List ℕ}
        → PutIs heights slots b w.at.shaft.0 at out heights' slots' w.count out' → w.at.row.0 ≡ height_in heights w.at.shaft.0 + 1
        → height_in heights b ≤ y → LeftIs f heights₀ slots₀ b y at₀ came heights' slots' w out'
    left_last w o {heights'} {slots'} {out'} r er z =
        let c : ℕ = w.at.shaft.0 in
        let g = on o r in
        let t : Store = store_of f heights' slots' in
        let low = lower o r in
        let higher : height_in heights' c ≡ suc (height_in heights c) = simp stack_length at (entered_higher g.moved) in
        let kept = still o r in
        let top : stack t c ≡ slot (store_of f heights₀ slots₀) b y ∷ stack (store_of f heights slots) c
        = taken_is u.over g.moved (omega (arith, under o r, stack_length (store_of f heights slots) b, u.covered, q.row)) in
        let shown : stack t c ≡ slot t c (height t c) ∷ downward t c (height_in heights c) = stack_top t c (height_in heights c) (sym higher) in
        let same : slot t c (height t c) ≡ slot (store_of f heights₀ slots₀) b y = cc (shown, top) in
        let row : w.at.row.0 ≡ height t c = omega arith in
        let before : length (staying (store_of f heights₀ slots₀) b y c) ≡ height_in heights₀ c
        = ap length (staying_other f heights₀ slots₀ b y c o.not_first) ∙ stack_length (store_of f heights₀ slots₀) c in
        record {
          went = record { steps = all_steps o r; shaped = g.went.shaped; room = g.went.room ∙ u.sized; few = omega (arith, g.went.few, u.fits, u.covered) };
          held = record { shaped = g.went.shaped; all = kept.all };
          usable = o.usable;
          differ = o.not_first;
          row = row;
          some_row = omega arith;
          shows = ap (slot t c) row ∙ same;
          over = omega (arith, before, onto_length (u.passed.onto c), stack_length (store_of f heights slots) c);
          low = omega (arith, low, u.covered);
          first = rw (staying_same f heights₀ slots₀ b y) at (kept.onto b);
          others = λ x n. rw (staying_other f heights₀ slots₀ b y x n) at (kept.onto x);
        }
