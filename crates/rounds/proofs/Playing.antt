-- A lent top row filled again, and the whole round.
use Rattle.std.proofs.Common.{Some}
use mathlib.Core.List.{List}
use mathlib.Core.Path.{◌≡◌, refl, sym, ap, ◌∙◌, subst}
use Prim.Native.Nat.{ℕ, suc, ◌+◌, ◌*◌, ◌-◌, ◌≤◌}
use native.Mathlib.Omega.{arith}
use lib.ListN.{length, set}
use Rattle.stacks.proofs.Sums.{everywhere}
use Rattle.stacks.proofs.RoundLaws.{top_plain}
use Rattle.stacks.proofs.PlacingLaws.{left_plain}
use Rattle.moves.proofs.Carrying.{went_none, went_then, went_within}
use Rattle.rooms.specs.declared.Frame.{Frame}
use Rattle.rooms.specs.declared.Spot.{Spot}
use Rattle.lifts.specs.Lifting.{height_in}
use Rattle.rooms.specs.Frames.{store_of, depth_in, Fits, Held}
use Rattle.placing.specs.Placed.{lifts_ahead, CanPlace, PlacedIs}
use Rattle.rooms.proofs.Bottoms.{shaped_fits}
use Rattle.store.proofs.Rows.{downward_length, stack_length}
use Rattle.lifts.specs.declared.Shaft.{Shaft}
use Rattle.agreeing.specs.Agreeing.{wanted_in}
use Rattle.finding.specs.Finding.{Stands, Somewhere}
use Rattle.choices.specs.Choices.{RoundFor}
use Rattle.turns.specs.declared.Turned.{Turned}
use Rattle.turns.specs.Turning.{OnTheWay, Ready}
use Rattle.serving.specs.Serving.{deepest, Lent, ServedOwed, ServedIs}
use Rattle.rounds.specs.Rounds.{CanRestore, GrownIs}
use Rattle.turns.proofs.Way.{passed_length, stands_over, done_now, somewhere}
use Rattle.turns.proofs.Turns.{see}
use Rattle.serving.proofs.Bringing.{can_place, one_more_set, way_grown}
use Rattle.serving.proofs.Servings.{heights_deepest, already}

module _ {f : Frame} {tops goal done heights slots : List ℕ} {c : Shaft} (w : OnTheWay f tops goal done heights slots) (k : CanRestore f tops done c.0) where
  pub seek_ready : (v : ℕ) → v ≡ wanted_in goal done c.0 → Fits f heights × Somewhere f heights slots done v
  seek_ready v e = (shaped_fits f heights slots w.held.shaped, rw e (somewhere w c.0 k.usable k.wanted))

  module _ (v : ℕ) (e : v ≡ wanted_in goal done c.0) (at : Spot) (s : Stands f heights slots done v at.shaft.0 at.row.0) where
    round_for : RoundFor f tops goal done heights slots (record { to = c; from = at })
    round_for = record { usable = k.usable; wanted = k.wanted; found = rw (← e) s }

    -- it is on top of its own shaft
    pub restored_there : (count : ℕ) (came : List ℕ) → at.shaft.0 ≡ c.0
        → GrownIs f tops goal done heights slots c.0 (deepest f + 1) count came (set done c.0 (height_in done c.0 + 1)) heights slots count came
    restored_there count came same =
        let z = already w round_for count came (height_in done c.0 + 1) refl same
        (omega (arith, s.unpassed, s.standing, w.held.shaped.heights at.shaft.0, k.top, ap (height_in done) same, ap (depth_in f) same)) in
        record { went = went_within (omega arith) (went_none (store_of f heights slots) count came w.held.shaped); way = z.way; more = z.owed }

    -- it is elsewhere
    module _ (differ : at.shaft.0 ≡ c.0 → ⊥) where
      ready : Ready f tops goal done heights slots at (record { shaft = c; row = record { 0 = height_in done c.0 + 1 } })
      ready = record { way = w; usable = k.usable; wanted = k.wanted; row = omega arith; stands = rw (← e) s; differ = differ }

      -- all in the way has room outside: the wanted row is the top one
      plain : (height_in heights at.shaft.0 - at.row.0) + (suc (height_in heights c.0) - (height_in done c.0 + 1))
          ≤ f.e + (height_in heights at.shaft.0 + height_in heights c.0) - (depth_in f at.shaft.0 + depth_in f c.0)
      plain =
          let z = (see ready).1 in
          top_plain w.halfway.passed (stands_over f goal done heights slots ready.stands) s.usable (ap suc (passed_length goal done c.0) ∙ k.top) _ _ _
          (omega (arith, s.unpassed, s.standing, downward_length (store_of f heights slots) at.shaft.0 (at.row.0 - 1), stack_length (store_of f heights slots) at.shaft.0))
          (omega (arith, passed_length goal done c.0, done_now w c.0, stack_length (store_of f heights slots) c.0))
          (omega (arith, z.rooms, stack_length (store_of f heights slots) at.shaft.0, stack_length (store_of f heights slots) c.0))

      few : lifts_ahead f heights at.shaft.0 at.row.0 c.0 (height_in done c.0 + 1) ≤ deepest f + 1
      few =
          omega (
            arith,
            left_plain (height_in heights at.shaft.0 - at.row.0) (suc (height_in heights c.0) - (height_in done c.0 + 1))
                (f.e + (height_in heights at.shaft.0 + height_in heights c.0) - (depth_in f at.shaft.0 + depth_in f c.0)) plain,
            heights_deepest f heights slots w.held.shaped at.shaft.0,
            w.held.shaped.heights c.0,
            k.top,
            s.unpassed,
          )

      pub restore_place : (count : ℕ) (came : List ℕ) → count + (deepest f + 1) ≤ length came → Held f heights slots
          × (CanPlace f heights at.shaft.0 at.row.0 c.0 (height_in done c.0 + 1)
          × (count + lifts_ahead f heights at.shaft.0 at.row.0 c.0 (height_in done c.0 + 1) ≤ length came))
      restore_place count came h = (w.held, (can_place ready (λ p. omega (arith, p, plain)), omega (arith, few)))

      pub restored : {count count' : ℕ} {came heights' slots' out : List ℕ}
          → PlacedIs f heights slots at.shaft.0 at.row.0 c.0 (height_in done c.0 + 1) count came heights' slots' count' out
          → GrownIs f tops goal done heights slots c.0 (deepest f + 1) count came (set done c.0 (height_in done c.0 + 1)) heights' slots' count' out
      restored p = record { went = went_within few p.went; way = way_grown ready p; more = one_more_set ready p }

-- the whole round, by what is owed
module _ {f : Frame} {tops goal done heights slots : List ℕ} {b count : ℕ} {came done' heights' slots' : List ℕ} {t : Turned} {mid : List ℕ}
    (w : OnTheWay f tops goal done heights slots) (most : count + (4 * deepest f + 8) ≤ length came)
    (z : ServedIs f tops goal done heights slots b (3 * deepest f + 4) count came done' heights' slots' t mid)
  where
    module _ (c : Shaft) (e : t.owed ≡ Some c) where
      lent : Lent f b c.0 done done'
      lent = subst (ServedOwed f b done done') e z.owed

      pub played_lent : {done'' heights'' slots'' : List ℕ} {count'' : ℕ} {out : List ℕ}
          → GrownIs f tops goal done' heights' slots' c.0 (deepest f + 1) t.count mid done'' heights'' slots'' count'' out
          → GrownIs f tops goal done heights slots b (4 * deepest f + 8) count came done'' heights'' slots'' count'' out
      played_lent g = record {
        went = went_within (omega arith) (went_then z.went g.went (omega arith));
        way = g.way;
        more = (
          g.more.1 b (λ q. lent.differ (sym q)) ∙ lent.grown,
          everywhere _ c.0 (λ n. g.more.0 ∙ lent.before) (λ x nc nb. g.more.1 x nc ∙ lent.others x nb nc),
        );
      }
