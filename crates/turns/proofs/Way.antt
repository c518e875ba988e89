-- Rounds under way, between the slots of the code and the stacks of the theory: where the wanted cassette stands, what is passed, and what changes when rows are
-- passed or given up.
use mathlib.Core.List.{List, [], ◌∷◌}
use mathlib.Core.Logic.{◌≢◌}
use mathlib.Core.Path.{◌≡◌, refl, ap, ◌∙◌}
use Prim.Native.Nat.{ℕ, suc, ◌+◌, ◌-◌, ◌≤◌, ◌<◌}
use native.Mathlib.Omega.{arith}
use lib.ListN.{length}
use Rattle.stacks.specs.Run.{Lift, Usable, Run}
use Rattle.stacks.specs.Placing.{Onto, Passed, Over}
use Rattle.stacks.proofs.Bottoms.{onto_length, onto_all, onto_both}
use Rattle.stacks.proofs.Sums.{everywhere}
use Rattle.stacks.proofs.RoundLaws.{halfway_after, halfway_less, halfway_more, find}
use Rattle.store.specs.declared.Store.{Store}
use Rattle.store.specs.Slots.{height, slot, downward, stack, held}
use Rattle.rows.specs.Rows.{rows_down}
use Rattle.store.proofs.Rows.{downward_length, stack_length}
use Rattle.rooms.specs.declared.Frame.{Frame}
use Rattle.lifts.specs.Lifting.{height_in}
use Rattle.rooms.specs.Frames.{store_of, depth_in, Held}
use Rattle.rooms.proofs.Bottoms.{rows_onto, stack_onto, row_onto}
use Rattle.agreeing.specs.Agreeing.{wanted_in}
use Rattle.finding.specs.Finding.{Stands}
use Rattle.turns.specs.Turning.{passed_rows, OnTheWay}

pub passed_length : (goal done : List ℕ) (x : ℕ) → length (passed_rows goal done x) ≡ height_in done x
passed_length goal done x = downward_length (held 0 [] [] goal) x (height_in done x)

-- a cassette that stands on p in the stack of x shows in its row
shows_in : (s : Store) (x v k : ℕ) (p : List ℕ) → Onto (v ∷ p) (stack s x) → length p ≡ k → slot s x (suc k) ≡ v
unfolding rows_down
shows_in s x v k p o e =
    let low : suc k ≤ height s x = omega (arith, onto_length o, stack_length s x) in
    let same : v ∷ p ≡ slot s x (suc k) ∷ downward s x k
    = onto_all (onto_both (stack_onto s x (suc k) low) o (omega (arith, downward_length s x (suc k)))) (omega (arith, downward_length s x k)) in
    cc (same)

module _ (f : Frame) (goal done heights slots : List ℕ) {v a y : ℕ} where
  pub stands_over : Stands f heights slots done v a y
      → Over (passed_rows goal done) (stack (store_of f heights slots)) v a (downward (store_of f heights slots) a (y - 1))
  stands_over t = record {
    stands = rw t.shows at (row_onto (store_of f heights slots) a y (omega (arith, t.unpassed)) t.standing);
    unpassed = omega (arith, passed_length goal done a, downward_length (store_of f heights slots) a (y - 1), t.unpassed);
  }

  pub over_stands : {p : List ℕ} → Over (passed_rows goal done) (stack (store_of f heights slots)) v a p → Usable f.m a → y ≡ suc (length p) → Stands f heights slots done v a y
  over_stands {p} o u e = record {
    usable = u;
    unpassed = omega (arith, o.unpassed, passed_length goal done a);
    standing = omega (arith, onto_length o.stands, stack_length (store_of f heights slots) a);
    shows = ap (slot (store_of f heights slots) a) e ∙ shows_in (store_of f heights slots) a v (length p) p o.stands refl;
  }

module _ {f : Frame} {tops goal done heights slots : List ℕ} (w : OnTheWay f tops goal done heights slots) where
  -- the rows passed stand in the store, hold the floors, and lie within the depths
  pub done_now : (x : ℕ) → height_in done x ≤ height_in heights x
  done_now x = omega (arith, onto_length (w.halfway.passed.onto x), passed_length goal done x, stack_length (store_of f heights slots) x)

  pub done_floor : (x : ℕ) → Usable f.m x → depth_in f x ≤ f.e + height_in done x
  done_floor x u = omega (arith, w.halfway.passed.floor x u, passed_length goal done x)

  pub tops_deep : (x : ℕ) → height_in tops x ≤ depth_in f x
  tops_deep x = w.goal_shaped.heights x

  -- the next row of a shaft that is not finished stands on what is passed of it in the goal
  pub goal_next : (b : ℕ) → height_in done b < height_in tops b → Onto (wanted_in goal done b ∷ passed_rows goal done b) (stack (store_of f tops goal) b)
  goal_next b h =
      let e : suc (height_in done b) - 1 ≡ height_in done b = omega arith in
      rw e at
      (row_onto (store_of f tops goal) b (suc (height_in done b)) (omega arith) h)

  -- the rows under a cassette that is not passed stand on those that are
  pub rows_under : {v a y : ℕ} → Stands f heights slots done v a y → Onto (passed_rows goal done a) (downward (store_of f heights slots) a (y - 1))
  rows_under {a = a} {y} t =
      onto_both (w.halfway.passed.onto a) (stack_onto (store_of f heights slots) a (y - 1) (omega (arith, t.standing)))
      (omega (arith, passed_length goal done a, downward_length (store_of f heights slots) a (y - 1), t.unpassed))

  -- the wanted cassette is somewhere
  pub somewhere : (b : ℕ) → Usable f.m b → height_in done b < height_in tops b
      → ((x y : ℕ) → Stands f heights slots done (wanted_in goal done b) x y → ⊥) → ⊥
  somewhere b u h none =
      let a = find w.halfway b (wanted_in goal done b) u (goal_next b h) in
      none a.shaft (suc (length a.under)) (over_stands f goal done heights slots a.over a.usable refl)

  -- fewer rows may be passed, down to the floors
  pub fewer_passed : (done' : List ℕ) → length done' ≡ 16 → ((x : ℕ) → height_in done' x ≤ height_in done x) → ((x : ℕ) → Usable f.m x → depth_in f x ≤ f.e + height_in done' x)
      → OnTheWay f tops goal done' heights slots
  fewer_passed done' size less floor =
      let part : (x : ℕ) → Onto (passed_rows goal done' x) (passed_rows goal done x) = λ x. rows_onto (held 0 [] [] goal) x (height_in done x) (height_in done' x) (less x) in
      record {
        held = w.held;
        goal_shaped = w.goal_shaped;
        three = w.three;
        some_row = w.some_row;
        sized = size;
        within = λ x. omega (arith, less x, w.within x);
        halfway = halfway_less w.halfway (passed_rows goal done') part (λ x u. omega (arith, floor x u, passed_length goal done' x));
      }

  -- lifts that leave what is passed alone are part of the way
  pub way_after : {heights' slots' : List ℕ} {ls : List Lift} → Held f heights' slots'
      → Run f.m (depth_in f) (stack (store_of f heights slots)) ls (stack (store_of f heights' slots'))
      → Passed f.m (depth_in f) f.e (passed_rows goal done) (stack (store_of f heights' slots')) → OnTheWay f tops goal done heights' slots'
  way_after h r p = record {
    held = h;
    goal_shaped = w.goal_shaped;
    three = w.three;
    some_row = w.some_row;
    sized = w.sized;
    within = w.within;
    halfway = halfway_after w.halfway r p;
  }

  -- the next row of b is in place, and passed
  pub one_more : (b : ℕ) (done' : List ℕ) → length done' ≡ 16 → height_in done b < height_in tops b → height_in done' b ≡ suc (height_in done b)
      → ((x : ℕ) → x ≢ b → height_in done' x ≡ height_in done x) → Onto (wanted_in goal done b ∷ passed_rows goal done b) (stack (store_of f heights slots) b)
      → OnTheWay f tops goal done' heights slots
  unfolding rows_down
  one_more b done' size h here there now =
      let at_b : passed_rows goal done' b ≡ wanted_in goal done b ∷ passed_rows goal done b = ap (rows_down goal b) here in
      let else : (x : ℕ) → x ≢ b → passed_rows goal done' x ≡ passed_rows goal done x = λ x n. ap (rows_down goal x) (there x n) in
      record {
        held = w.held;
        goal_shaped = w.goal_shaped;
        three = w.three;
        some_row = w.some_row;
        sized = size;
        within = everywhere _ b (omega (arith, here)) (λ x n. omega (arith, there x n, w.within x));
        halfway = halfway_more w.halfway (passed_rows goal done') b (wanted_in goal done b) at_b else now (goal_next b h);
      }
