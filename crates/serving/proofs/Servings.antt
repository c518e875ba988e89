-- The cassette of a round brought to its row: in place already, out of its own shaft, or from another one.
use Rattle.std.proofs.Common.{None}
use mathlib.Core.List.{List, ◌∷◌}
use mathlib.Core.Path.{◌≡◌, sym, ap, ◌∙◌, subst}
use Prim.Native.Nat.{ℕ, ◌+◌, ◌*◌, ◌-◌, ◌≤◌, ◌<◌}
use native.Mathlib.Decide.{dec_lt}
use native.Mathlib.Omega.{arith}
use lib.ListN.{length, set, length-set}
use lib.Seq.{get_or-set_same, get_or-set_other}
use Rattle.stacks.specs.Placing.{Onto, Over}
use Rattle.stacks.proofs.Bottoms.{onto_then}
use Rattle.stacks.proofs.Sums.{everywhere, term_le_greatest}
use Rattle.stacks.proofs.RoundLaws.{in_place}
use Rattle.store.specs.Slots.{downward, stack}
use Rattle.store.specs.Sound.{Shaped}
use Rattle.store.proofs.Played.{leads_run}
use Rattle.store.proofs.Rows.{downward_length}
use Rattle.reach.proofs.Agree.{shaped_within}
use Rattle.moves.proofs.Carrying.{went_none, went_then, went_within}
use Rattle.rooms.specs.declared.Frame.{Frame}
use Rattle.placing.specs.declared.leave.Off.{Off}
use Rattle.lifts.specs.Lifting.{height_in}
use Rattle.rooms.specs.Frames.{store_of, depth_in, Held}
use Rattle.placing.specs.Left.{CanLeave, LeftIs}
use Rattle.choices.specs.declared.Round.{Round}
use Rattle.agreeing.specs.Agreeing.{wanted_in}
use Rattle.choices.specs.Choices.{RoundFor}
use Rattle.turns.specs.declared.Turned.{Turned}
use Rattle.turns.specs.Turning.{passed_rows, OnTheWay, Ready}
use Rattle.serving.specs.Serving.{deepest, most_lifts, OneMore, ServedIs}
use Rattle.turns.proofs.Way.{rows_under, passed_length, stands_over, done_now, done_floor, tops_deep, way_after, one_more}

-- no shaft is higher than the deepest is deep
pub heights_deepest : (f : Frame) (heights slots : List ℕ) → Shaped (store_of f heights slots) → (x : ℕ) → height_in heights x ≤ deepest f
heights_deepest f heights slots p x =
    elim (dec_lt x f.m) [
      | yes h ↦ omega (arith, p.heights x, term_le_greatest f.m (depth_in f) x h)
      | no h ↦ omega (arith, p.heights x, p.none_beyond x (omega arith))
    ]

module _ {f : Frame} {tops goal done heights slots : List ℕ} {q : Round} (w : OnTheWay f tops goal done heights slots) (r : RoundFor f tops goal done heights slots q) where
  -- the next row of the shaft can be counted
  pub next_row : (q.to.0 < 16) × (height_in done q.to.0 < 16)
  next_row = (omega (arith, r.usable, w.held.shaped.shafts), omega (arith, r.wanted, tops_deep w q.to.0, w.held.shaped.rows q.to.0))

  set_more : (row : ℕ) → row ≡ height_in done q.to.0 + 1 → OneMore q.to.0 done (set done q.to.0 row)
  set_more row e = (get_or-set_same done q.to.0 row 0 (omega (arith, next_row, w.sized)) ∙ omega arith, λ x n. get_or-set_other done q.to.0 x row 0 n)

  -- it is in place already
  pub already : (count : ℕ) (came : List ℕ) (row : ℕ) → row ≡ height_in done q.to.0 + 1 → q.from.shaft.0 ≡ q.to.0 → q.from.row.0 ≡ row
      → ServedIs f tops goal done heights slots q.to.0 (3 * deepest f + 4) count came (set done q.to.0 row) heights slots (record { owed = None; count = count }) came
  already count came row e s y =
      let o = stands_over f goal done heights slots r.found in
      let b : ℕ = q.to.0 in
      record {
        went = went_within (omega arith) (went_none (store_of f heights slots) count came w.held.shaped);
        way = one_more w b (set done b row) (length-set done b row ∙ w.sized) r.wanted (set_more row e).0 (set_more row e).1 (on_top o);
        owed = set_more row e;
      }
    where
      on_top : Over (passed_rows goal done) (stack (store_of f heights slots)) (wanted_in goal done q.to.0) q.from.shaft.0
          (downward (store_of f heights slots) q.from.shaft.0 (q.from.row.0 - 1))
          → Onto (wanted_in goal done q.to.0 ∷ passed_rows goal done q.to.0) (stack (store_of f heights slots) q.to.0)
      on_top o =
          in_place w.halfway (subst (λ (x : ℕ). Over (passed_rows goal done) (stack (store_of f heights slots)) (wanted_in goal done q.to.0) x (downward (store_of f heights slots) q.from.shaft.0 (q.from.row.0 - 1))) s o)
          (omega (arith, passed_length goal done q.to.0, downward_length (store_of f heights slots) q.from.shaft.0 (q.from.row.0 - 1)))

  module _ (count : ℕ) (came : List ℕ) (most : count + (3 * deepest f + 4) ≤ length came) (row : ℕ) (e : row ≡ height_in done q.to.0 + 1) where
    rows_most : (x : ℕ) → height_in heights x ≤ deepest f
    rows_most = heights_deepest f heights slots w.held.shaped

    -- it stands in another shaft
    module _ (differ : q.from.shaft.0 ≡ q.to.0 → ⊥) where
      pub ready_from : Ready f tops goal done heights slots q.from (record { shaft = q.to; row = record { 0 = row } })
      ready_from = record { way = w; usable = r.usable; wanted = r.wanted; row = omega arith; stands = r.found; differ = differ }

      few_from : most_lifts heights q.from (record { shaft = q.to; row = record { 0 = row } }) ≤ 3 * deepest f + 4
      few_from = omega (arith, rows_most q.from.shaft.0, rows_most q.to.0, r.found.unpassed)

      pub bring_from : Ready f tops goal done heights slots q.from (record { shaft = q.to; row = record { 0 = row } })
          × (count + most_lifts heights q.from (record { shaft = q.to; row = record { 0 = row } }) ≤ length came)
      bring_from = (ready_from, omega (arith, few_from))

      pub served_from : {done' heights' slots' : List ℕ} {t : Turned} {out : List ℕ}
          → ServedIs f tops goal done heights slots q.to.0 (most_lifts heights q.from (record { shaft = q.to; row = record { 0 = row } })) count came done' heights' slots' t out
          → ServedIs f tops goal done heights slots q.to.0 (3 * deepest f + 4) count came done' heights' slots' t out
      served_from z = record { went = went_within few_from z.went; way = z.way; owed = z.owed }

    -- it stands in the same shaft, but higher
    module _ (same : q.from.shaft.0 ≡ q.to.0) (higher : q.from.row.0 ≡ row → ⊥) where
      high : row < q.from.row.0
      high = omega (arith, r.found.unpassed, ap (height_in done) same)

      pub leave_ready : Held f heights slots
          × (CanLeave f heights q.from.shaft.0 q.from.row.0 × (count + (height_in heights q.from.shaft.0 + 1 - q.from.row.0) ≤ length came))
      leave_ready = (
        w.held,
        (
          record {
            usable = r.found.usable;
            row = omega (arith, r.found.unpassed);
            stands = r.found.standing;
            floor = omega (arith, done_floor w q.from.shaft.0 r.found.usable, r.found.unpassed);
          },
          omega (arith, rows_most q.from.shaft.0, r.found.unpassed),
        ),
      )

      module _ {heights' slots' : List ℕ} {off : Off} {mid : List ℕ} (l : LeftIs f heights slots q.from.shaft.0 q.from.row.0 count came heights' slots' off mid) where
        way_left : OnTheWay f tops goal done heights' slots'
        way_left =
            way_after w l.held (leads_run w.held.shaped l.went.steps.leads)
            (record {
              onto = everywhere _ q.from.shaft.0
                  (onto_then (rows_under w r.found) l.first)
                  (λ x n. onto_then (w.halfway.passed.onto x) (l.others x n));
              floor = w.halfway.passed.floor;
              within = shaped_within (store_of f heights' slots') l.held.shaped;
              all = l.held.all;
            })

        ready_left : Ready f tops goal done heights' slots' off.at (record { shaft = q.to; row = record { 0 = row } })
        ready_left = record {
          way = way_left;
          usable = r.usable;
          wanted = r.wanted;
          row = omega arith;
          stands = record {
            usable = l.usable;
            unpassed = omega (arith, l.over, done_now w off.at.shaft.0);
            standing = omega (arith, l.row);
            shows = l.shows ∙ r.found.shows;
          };
          differ = λ z. l.differ (z ∙ sym same);
        }

        few_left : (height_in heights q.from.shaft.0 + 1 - q.from.row.0) + most_lifts heights' off.at (record { shaft = q.to; row = record { 0 = row } }) ≤ 3 * deepest f + 4
        few_left = omega (arith, l.row, l.low, ap (height_in heights') same, rows_most q.from.shaft.0, high, r.found.standing, r.found.unpassed)

        pub bring_left : Ready f tops goal done heights' slots' off.at (record { shaft = q.to; row = record { 0 = row } })
            × (off.count + most_lifts heights' off.at (record { shaft = q.to; row = record { 0 = row } }) ≤ length mid)
        bring_left = (ready_left, omega (arith, few_left, l.went.few, l.went.room))

        pub served_left : {done'' heights'' slots'' : List ℕ} {t : Turned} {out : List ℕ}
            → ServedIs f tops goal done heights' slots' q.to.0 (most_lifts heights' off.at (record { shaft = q.to; row = record { 0 = row } })) off.count mid done'' heights'' slots'' t out
            → ServedIs f tops goal done heights slots q.to.0 (3 * deepest f + 4) count came done'' heights'' slots'' t out
        served_left z = record { went = went_within few_left (went_then l.went z.went (omega (arith, few_left))); way = z.way; owed = z.owed }
