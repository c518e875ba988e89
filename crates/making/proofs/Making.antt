-- With three shafts or more: rounds can be played from the rows that agree, and they make a list within the list space, an empty one where start and goal
-- are the same.
use mathlib.Core.List.{List}
use mathlib.Core.Path.{◌≡◌, sym, ap, subst}
use Prim.Native.Nat.{ℕ, ◌+◌, ◌*◌, ◌-◌, ◌≤◌, ◌<◌}
use native.Mathlib.Omega.{arith}
use lib.ListN.{length}
use Rattle.stacks.specs.Count.{sum, greatest, total}
use Rattle.stacks.specs.Placing.{Onto}
use Rattle.stacks.proofs.Sums.{sum_le, sum_none}
use Rattle.stacks.proofs.Rounds.{within_bound}
use Rattle.stacks.proofs.Floors.{filled_and_empty}
use Rattle.store.specs.declared.Store.{Store}
use Rattle.store.specs.Slots.{depth, deepest, height, stack, cassette_count, empty_count, list_space}
use Rattle.rows.specs.Rows.{rows_down}
use Rattle.store.specs.Sound.{Sound}
use Rattle.store.proofs.Acceptance.{accepted_sound}
use Rattle.store.proofs.Counted.{heights_counted, same_count}
use Rattle.reach.specs.Pairs.{Comparable}
use Rattle.reach.specs.Rules.{floor, Rule}
use Rattle.reach.proofs.Agree.{empties_agree}
use Rattle.reach.proofs.Reachability.{start_within, beyond, same_occurrences, start_floor, goal_floor, rule_floors}
use Rattle.moves.specs.Written.{Steps}
use Rattle.rooms.specs.declared.Frame.{Frame}
use Rattle.lifts.specs.Lifting.{height_in}
use Rattle.rooms.specs.Frames.{store_of, Fits}
use Rattle.rooms.proofs.Bottoms.{shaped_fits, stack_onto}
use Rattle.agreeing.specs.Agreeing.{AgreeingIs}
use Rattle.turns.specs.Turning.{passed_rows, OnTheWay}
use Rattle.rounds.specs.Rounds.{rows_left, ArrivedIs}
use Rattle.turns.proofs.Way.{passed_length}
use Rattle.making.specs.Made.{MadeIs}

-- the frame of a store with e empty slots
abbrev pub frame_of : Store → ℕ → Frame
frame_of s e = record { m = s.m; depths = s.depths; e = e }

module _ (s t : Store) (p : Comparable s t) (e : ℕ) where
  start : Sound s
  start = accepted_sound s p.start

  goal : Sound t
  goal = accepted_sound t p.goal

  -- the goal in the frame of the start
  framed : store_of (frame_of s e) t.heights t.slots ≡ t
  framed = λ i. record { m = p.frame.shafts i; depths = p.frame.depths i; heights = t.heights; slots = t.slots }

  pub fits_both : Fits (frame_of s e) s.heights × Fits (frame_of s e) t.heights
  fits_both = (
    shaped_fits (frame_of s e) s.heights s.slots start.shaped,
    shaped_fits (frame_of s e) t.heights t.slots (rw framed goal.shaped),
  )

  all_slots : e ≡ empty_count s → total s.m (stack s) + e ≡ sum s.m (depth s)
  all_slots empty = rw empty (rw (empties_agree s) at (filled_and_empty s.m (depth s) (stack s) (start_within s t p)))

  module _ (done : List ℕ) (a : AgreeingIs (frame_of s e) s.heights s.slots t.heights t.slots done) where
    rows_now : (x : ℕ) → Onto (passed_rows t.slots done x) (stack s x)
    rows_now x = rw (a.same x) at (stack_onto s x (height_in done x) (a.now x))

    rows_goal : (x : ℕ) → Onto (passed_rows t.slots done x) (stack t x)
    rows_goal x = stack_onto t x (height_in done x) (a.goal x)

    -- no more rows are left than there are cassettes, and none where start and goal are the same
    left_few : rows_left (frame_of s e) t.heights done ≤ cassette_count s
    unfolding rows_left
    left_few =
        omega (
          arith,
          sum_le s.m (λ x. height t x - height_in done x) (height t) (λ x _. omega arith),
          ap (λ m. sum m (height t)) p.frame.shafts,
          heights_counted t,
          same_count s t p.cassettes,
        )

    left_none : s ≡ t → rows_left (frame_of s e) t.heights done ≡ 0
    unfolding rows_left
    left_none eq =
        sum_none s.m (λ x. height t x - height_in done x) λ x u.
        let same : height t x ≡ height s x = ap (λ (v : Store). height v x) (sym eq) in
        omega (arith, a.longest x (height s x) u (omega arith) (omega arith) (ap (λ (v : Store). rows_down v.slots x (height s x)) eq))

    space_most : rows_left (frame_of s e) t.heights done * (4 * greatest s.m (depth s) + 8) ≤ list_space s
    unfolding list_space deepest
    space_most = within_bound (cassette_count s) (rows_left (frame_of s e) t.heights done) (greatest s.m (depth s)) left_few

    -- from the rows that agree rounds can be played
    module _ (empty : e ≡ empty_count s) (three : 2 < s.m) (r : Rule s t) where
      -- the floors agree, so they are passed
      floor_passed : (x : ℕ) → x < s.m → depth s x ≤ e + height_in done x
      unfolding floor
      floor_passed x u =
          omega (
            arith,
            a.longest x (floor s x) u (start_floor s t p x u) (goal_floor s t p x u) (rule_floors s t p three r x u),
          )

      way_first : OnTheWay (frame_of s e) t.heights t.slots done s.heights s.slots
      way_first = record {
        held = record { shaped = start.shaped; all = all_slots empty };
        goal_shaped = rw framed goal.shaped;
        three = three;
        some_row = start.some_row;
        sized = a.sized;
        within = a.goal;
        halfway = rw framed (record {
          passed = record {
            onto = rows_now;
            floor = λ x u. omega (arith, floor_passed x u, passed_length t.slots done x);
            within = start_within s t p;
            all = all_slots empty;
          };
          goal = rows_goal;
          counts = same_occurrences s t p;
          beyond = beyond s t p;
        });
      }

      pub play_ready : (came : List ℕ) → list_space s ≤ length came
          → OnTheWay (frame_of s e) t.heights t.slots done s.heights s.slots × (rows_left (frame_of s e) t.heights done * (4 * greatest s.m (depth s) + 8) ≤ length came)
      play_ready came h = (way_first, omega (arith, space_most))

    pub made : {came done' heights' slots' out : List ℕ} {count : ℕ}
        → ArrivedIs (frame_of s e) t.heights t.slots done s.heights s.slots came done' heights' slots' count out
        → MadeIs s t came count out
    made {came} {out = out} {count} r = record {
      steps = subst (λ (u : Store). Steps s 0 came u count out) framed r.steps;
      short = omega (arith, r.few, space_most);
      nothing = λ eq. omega (arith, r.few, ap (λ (j : ℕ). j * (4 * greatest s.m (depth s) + 8)) (left_none eq));
    }
