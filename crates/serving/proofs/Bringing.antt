-- A cassette brought to its row from another shaft: what is passed stays, and one row more can be passed.
use Rattle.std.proofs.Common.{Option, Some, None}
use mathlib.Core.List.{List, [], ◌∷◌}
use mathlib.Core.Logic.{◌≢◌}
use mathlib.Core.Path.{◌≡◌, refl, sym, ap, ◌∙◌}
use Prim.Native.Nat.{ℕ, suc, ◌+◌, ◌-◌, ◌≤◌, ◌<◌}
use native.Mathlib.Omega.{arith}
use lib.ListN.{length, set, length-set}
use lib.Seq.{get_or-set_same, get_or-set_other}
use Rattle.stacks.specs.Placing.{Onto}
use Rattle.stacks.proofs.Bottoms.{onto_then, onto_all, onto_both}
use Rattle.stacks.proofs.Sums.{everywhere}
use Rattle.stacks.proofs.PlacingLaws.{left_most}
use Rattle.store.specs.Slots.{downward, stack}
use Rattle.store.proofs.Played.{leads_run}
use Rattle.store.proofs.Rows.{downward_length}
use Rattle.reach.proofs.Agree.{shaped_within}
use Rattle.moves.proofs.Carrying.{went_then, went_within}
use Rattle.lifts.specs.declared.Shaft.{Shaft}
use Rattle.rooms.specs.declared.Frame.{Frame}
use Rattle.rooms.specs.declared.Spot.{Spot}
use Rattle.lifts.specs.Lifting.{height_in}
use Rattle.rooms.specs.Frames.{store_of, depth_in, Held}
use Rattle.placing.specs.Placed.{lifts_ahead, CanPlace, PlacedIs}
use Rattle.rooms.proofs.Bottoms.{stack_onto}
use Rattle.agreeing.specs.Agreeing.{wanted_in}
use Rattle.turns.specs.declared.Turned.{Turned}
use Rattle.turns.specs.Turning.{passed_rows, OnTheWay, Ready, OwedIs, TurnedIs}
use Rattle.serving.specs.Serving.{most_lifts, OneMore, ServedOwed, ServedIs}
use Rattle.turns.proofs.Way.{rows_under, passed_length, done_now, done_floor, tops_deep, way_after, one_more}

-- rows that are passed stay in other shafts too, under whatever was set on them
module _ {f : Frame} {tops goal done heights slots : List ℕ} {at to : Spot} (r : Ready f tops goal done heights slots at to) where
  -- the rows under the wanted one are those passed
  under_to : downward (store_of f heights slots) to.shaft.0 (to.row.0 - 1) ≡ passed_rows goal done to.shaft.0
  under_to =
      let b : ℕ = to.shaft.0 in
      let k : to.row.0 - 1 ≡ height_in done b = omega (arith, r.row) in
      let low : height_in done b ≤ height_in heights b = done_now r.way b in
      rw k
      (onto_all
      (onto_both (r.way.halfway.passed.onto b) (stack_onto (store_of f heights slots) b (height_in done b) low)
      (omega (arith, passed_length goal done b, downward_length (store_of f heights slots) b (height_in done b))))
      (omega (arith, passed_length goal done b, downward_length (store_of f heights slots) b (height_in done b))))

  -- the rows under the cassette stand on those passed
  under_at : Onto (passed_rows goal done at.shaft.0) (downward (store_of f heights slots) at.shaft.0 (at.row.0 - 1))
  under_at = rows_under r.way r.stands

  pub can_place : (0 < (height_in heights at.shaft.0 - at.row.0) + (suc (height_in heights to.shaft.0) - to.row.0)
      → depth_in f at.shaft.0 + depth_in f to.shaft.0 < f.e + (height_in heights at.shaft.0 + height_in heights to.shaft.0))
      → CanPlace f heights at.shaft.0 at.row.0 to.shaft.0 to.row.0
  can_place room = record {
    differ = r.differ;
    first = r.stands.usable;
    second = r.usable;
    row = omega (arith, r.stands.unpassed);
    stands = r.stands.standing;
    some_row = omega (arith, r.row);
    reaches = omega (arith, r.row, done_now r.way to.shaft.0);
    has_row = omega (arith, r.row, r.wanted, tops_deep r.way to.shaft.0);
    floor_from = omega (arith, done_floor r.way at.shaft.0 r.stands.usable, r.stands.unpassed);
    floor_to = omega (arith, done_floor r.way to.shaft.0 r.usable, r.row);
    way = room;
  }

  module _ {count count' : ℕ} {came heights' slots' out : List ℕ}
      (p : PlacedIs f heights slots at.shaft.0 at.row.0 to.shaft.0 to.row.0 count came heights' slots' count' out)
    where
      -- the cassette stands on what is passed
      pub stands_there : Onto (wanted_in goal done to.shaft.0 ∷ passed_rows goal done to.shaft.0) (stack (store_of f heights' slots') to.shaft.0)
      stands_there = rw (r.stands.shows, under_to) at p.placed

      pub way_placed : OnTheWay f tops goal done heights' slots'
      way_placed =
          way_after r.way p.held (leads_run r.way.held.shaped p.went.steps.leads)
          (record {
            onto = everywhere _ to.shaft.0 (onto_then (record { above = wanted_in goal done to.shaft.0 ∷ []; split = refl }) stands_there)
                (λ x nb. everywhere (λ x. x ≢ to.shaft.0 → Onto (passed_rows goal done x) (stack (store_of f heights' slots') x)) at.shaft.0
                (λ _. onto_then under_at p.first) (λ x na nb. onto_then (r.way.halfway.passed.onto x) (p.others x na nb)) x nb);
            floor = r.way.halfway.passed.floor;
            within = shaped_within (store_of f heights' slots') p.held.shaped;
            all = p.held.all;
          })

      -- and is passed itself
      set_here : length done ≡ 16 → height_in (set done to.shaft.0 to.row.0) to.shaft.0 ≡ suc (height_in done to.shaft.0)
      set_here e = get_or-set_same done to.shaft.0 to.row.0 0 (omega (arith, r.usable, r.way.held.shaped.shafts)) ∙ r.row

      pub one_more_set : OneMore to.shaft.0 done (set done to.shaft.0 to.row.0)
      one_more_set = (set_here r.way.sized, λ x n. get_or-set_other done to.shaft.0 x to.row.0 0 n)

      pub way_grown : OnTheWay f tops goal (set done to.shaft.0 to.row.0) heights' slots'
      way_grown =
          one_more way_placed to.shaft.0 (set done to.shaft.0 to.row.0) (length-set done to.shaft.0 to.row.0 ∙ r.way.sized) r.wanted one_more_set.0
          one_more_set.1 stands_there

-- what is owed after a turn is owed after the placement
served_owed : (f : Frame) (b : ℕ) (done done' done'' : List ℕ) (o : Option Shaft) → OwedIs f b done done' o → OneMore b done' done'' → ServedOwed f b done done'' o
served_owed f b done done' done'' None h m = (m.0 ∙ ap suc (h b), λ x n. m.1 x n ∙ h x)
served_owed f b done done' done'' (Some c) h m =
    let same : height_in done'' c.0 ≡ height_in done' c.0 = m.1 c.0 h.1.0 in
    record {
      usable = h.0;
      differ = h.1.0;
      top = ap suc same ∙ h.1.1.0;
      before = ap suc same ∙ h.1.1.1.0;
      grown = m.0 ∙ ap suc (h.1.1.1.1 b (λ e. h.1.0 (sym e)));
      others = λ x nb nc. m.1 x nb ∙ h.1.1.1.1 x nc;
    }

module _ {f : Frame} {tops goal done heights slots : List ℕ} {at to : Spot} (count : ℕ) (came : List ℕ) (most : count + most_lifts heights at to ≤ length came) where
  module _ {done' heights' slots' : List ℕ} {t : Turned} {mid : List ℕ} (z : TurnedIs f tops goal done heights slots at to count came done' heights' slots' t mid) where
    -- the lifts of the placement are within the bound
    ahead_few : lifts_ahead f heights' at.shaft.0 at.row.0 to.shaft.0 to.row.0 + 1 ≤ most_lifts heights at to
    ahead_few =
        let a : ℕ = at.shaft.0 in
        let b : ℕ = to.shaft.0 in
        omega (
          arith,
          z.same,
          z.near,
          left_most (height_in heights' a - at.row.0) (suc (height_in heights' b) - to.row.0)
              (f.e + (height_in heights' a + height_in heights' b) - (depth_in f a + depth_in f b)),
        )

    pub place_ready : Held f heights' slots'
        × (CanPlace f heights' at.shaft.0 at.row.0 to.shaft.0 to.row.0
        × (t.count + lifts_ahead f heights' at.shaft.0 at.row.0 to.shaft.0 to.row.0 ≤ length mid))
    place_ready = (z.ready.way.held, (can_place z.ready z.room, omega (arith, ahead_few, z.went.few, z.went.room)))

    pub served : {heights'' slots'' : List ℕ} {count'' : ℕ} {out : List ℕ}
        → PlacedIs f heights' slots' at.shaft.0 at.row.0 to.shaft.0 to.row.0 t.count mid heights'' slots'' count'' out
        → ServedIs f tops goal done heights slots to.shaft.0 (most_lifts heights at to) count came (set done' to.shaft.0 to.row.0) heights'' slots''
        (record { owed = t.owed; count = count'' }) out
    served p = record {
      went = went_within (omega (arith, ahead_few)) (went_then z.went p.went (omega (arith, ahead_few)));
      way = way_grown z.ready p;
      owed = served_owed f to.shaft.0 done done' _ t.owed z.owed (one_more_set z.ready p);
    }
