-- Making room for a round: what is ahead, and the turn, in which a third shaft lends its top.
use Rattle.std.proofs.Common.{Option, Some, None}
use mathlib.Core.List.{List}
use mathlib.Core.Logic.{◌≢◌, Ne-symm}
use mathlib.Core.Path.{◌≡◌, refl, ap, ◌∙◌}
use Prim.Native.Nat.{ℕ, suc, ◌+◌, ◌-◌, ◌≤◌, ◌<◌}
use native.Mathlib.Omega.{arith}
use lib.ListN.{length, set, length-set}
use lib.Seq.{get_or-set_same, get_or-set_other}
use Rattle.stacks.specs.Run.{Usable}
use Rattle.stacks.specs.Placing.{Over}
use Rattle.stacks.proofs.Sums.{everywhere}
use Rattle.stacks.proofs.PlacingLaws.{two_rooms, three_rooms, entered_higher, others_same}
use Rattle.stacks.proofs.RoundLaws.{turn_legal, turned}
use Rattle.store.specs.Slots.{downward, stack}
use Rattle.store.specs.Lifts.{Allowed}
use Rattle.store.proofs.Rows.{downward_length, stack_length}
use Rattle.lifts.specs.Carried.{CanCarry}
use Rattle.moves.specs.Put.{PutIs}
use Rattle.store.proofs.Lifting.{can_carry}
use Rattle.moves.proofs.Carrying.{CarriedOn, carried_on, went_none, went_within}
use Rattle.lifts.specs.declared.Shaft.{Shaft}
use Rattle.rooms.specs.declared.Frame.{Frame}
use Rattle.rooms.specs.declared.Spot.{Spot}
use Rattle.ahead.specs.declared.Ahead.{Ahead}
use Rattle.lifts.specs.Lifting.{height_in}
use Rattle.rooms.specs.Frames.{store_of, depth_in, Fits}
use Rattle.ahead.specs.Ahead.{CanSee, AheadIs}
use Rattle.rooms.proofs.Bottoms.{legal_allowed, shaped_fits}
use Rattle.agreeing.specs.Agreeing.{wanted_in}
use Rattle.finding.specs.Finding.{Stands}
use Rattle.turns.specs.Turning.{passed_rows, OnTheWay, Ready, ThirdIs, LentIs, OwedIs, TurnedIs}
use Rattle.turns.proofs.OneLift.{run_one}
use Rattle.turns.proofs.Way.{passed_length, stands_over, over_stands, done_now, done_floor, tops_deep, fewer_passed, way_after}

-- what is ahead is few: both shafts have at most 16 rows
pub ahead_few : (f : Frame) (heights : List ℕ) (a y b y' : ℕ) (n : Ahead) → Fits f heights → AheadIs f heights a y b y' n → n.cover + n.load ≤ 33
ahead_few f heights a y b y' n k p = omega (arith, p.cover, p.in_way, k.within a, k.rows a, k.within b, k.rows b)

-- what is passed after the top of c was lent
pub record Lowered (f : Frame) (b c : ℕ) (done heights done' : List ℕ) (o : Option Shaft) : Type 0 where
  pub sized : length done' ≡ 16
  pub less : (x : ℕ) → height_in done' x ≤ height_in done x
  pub others : (x : ℕ) → x ≢ c → height_in done' x ≡ height_in done x
  pub floor : 0 < f.e → depth_in f c ≤ f.e + height_in done c → depth_in f c ≤ f.e + height_in done' c
  pub top : height_in done' c < height_in heights c
  pub owed : OwedIs f b done done' o

lowered : (f : Frame) (b c : ℕ) (done heights done' : List ℕ) (o : Option Shaft) → LentIs done heights c done' o → length done ≡ 16 → c < 16 → Usable f.m c → c ≢ b
    → 0 < height_in heights c → height_in heights c ≡ depth_in f c → Lowered f b c done heights done' o
lowered f b c done heights done' None l size i u n some full =
    let e : (x : ℕ) → height_in done' x ≡ height_in done x = λ x. ap (λ (d : List ℕ). height_in d x) l.0 in
    record {
      sized = ap length l.0 ∙ size;
      less = λ x. omega (arith, e x);
      others = λ x _. e x;
      floor = λ _ g. omega (arith, e c);
      top = omega (arith, e c, l.1);
      owed = e;
    }
lowered f b c done heights done' (Some z) l size i u n some full =
    let e : (x : ℕ) → height_in done' x ≡ height_in (set done c (height_in done c - 1)) x = λ x. ap (λ (d : List ℕ). height_in d x) l.1.0 in
    let here : height_in done' c ≡ height_in done c - 1 = e c ∙ get_or-set_same done c (height_in done c - 1) 0 (omega arith) in
    let there : (x : ℕ) → x ≢ c → height_in done' x ≡ height_in done x = λ x m. e x ∙ get_or-set_other done c x (height_in done c - 1) 0 m in
    record {
      sized = ap length l.1.0 ∙ length-set done c (height_in done c - 1) ∙ size;
      less = everywhere _ c (omega (arith, here)) (λ x m. omega (arith, there x m));
      others = there;
      floor = λ g _. omega (arith, here, l.1.1);
      top = omega (arith, here, l.1.1);
      owed = rw l.0 (u, (n, (omega (arith, here, l.1.1), (omega (arith, here, l.1.1), there))));
    }

module _ {f : Frame} {tops goal done heights slots : List ℕ} {at to : Spot} (r : Ready f tops goal done heights slots at to) where
  over : Over (passed_rows goal done) (stack (store_of f heights slots)) (wanted_in goal done to.shaft.0) at.shaft.0 (downward (store_of f heights slots) at.shaft.0 (at.row.0 - 1))
  over = stands_over f goal done heights slots r.stands

  rooms : depth_in f at.shaft.0 + depth_in f to.shaft.0 ≤ f.e + (height_in heights at.shaft.0 + height_in heights to.shaft.0)
  rooms = simp stack_length at (two_rooms r.way.halfway.passed at.shaft.0 to.shaft.0 r.differ r.stands.usable r.usable)

  pub see : Fits f heights × CanSee f heights at.shaft.0 at.row.0 to.shaft.0 to.row.0
  see = (
    shaped_fits f heights slots r.way.held.shaped,
    record {
      first = r.stands.usable;
      second = r.usable;
      stands = r.stands.standing;
      some_row = omega (arith, r.row);
      reaches = omega (arith, r.row, done_now r.way to.shaft.0);
      rooms = rooms;
    },
  )

  -- room is left already, or nothing is in the way
  stay : (count : ℕ) (came : List ℕ)
      → (0 < (height_in heights at.shaft.0 - at.row.0) + (suc (height_in heights to.shaft.0) - to.row.0)
      → depth_in f at.shaft.0 + depth_in f to.shaft.0 < f.e + (height_in heights at.shaft.0 + height_in heights to.shaft.0))
      → TurnedIs f tops goal done heights slots at to count came done heights slots (record { owed = None; count = count }) came
  stay count came h = record {
    went = went_within (omega arith) (went_none (store_of f heights slots) count came r.way.held.shaped);
    ready = r;
    same = refl;
    near = omega arith;
    owed = λ x. refl;
    room = h;
  }

  module _ (n : Ahead) (v : AheadIs f heights at.shaft.0 at.row.0 to.shaft.0 to.row.0 n) (count : ℕ) (came : List ℕ) where
    pub has_room : 0 < n.outside → TurnedIs f tops goal done heights slots at to count came done heights slots (record { owed = None; count = count }) came
    has_room h = stay count came (λ _. omega (arith, v.outside))

    pub nothing_there : n.cover + n.load ≡ 0 → TurnedIs f tops goal done heights slots at to count came done heights slots (record { owed = None; count = count }) came
    nothing_there h = stay count came (λ p. absurd (omega (arith, p, v.cover, v.in_way)))

    -- the turn, with the top of c
    module _ (none : n.outside ≤ 0) (c : ℕ) (t : ThirdIs f at.shaft.0 to.shaft.0 c) where
      full : height_in heights c ≡ depth_in f c
      full =
          omega (
            arith,
            v.outside,
            r.way.held.shaped.heights c,
            simp stack_length at
                (three_rooms r.way.halfway.passed at.shaft.0 to.shaft.0 c r.differ t.not_first t.not_second r.stands.usable r.usable t.usable),
          )

      pub lend_ready : ((c < 16) × (0 < height_in heights c)) × (height_in done c ≤ height_in heights c)
      lend_ready = ((omega (arith, t.usable, r.way.held.shaped.shafts), omega (arith, full, r.way.some_row c t.usable)), done_now r.way c)

      module _ (done' : List ℕ) (o : Option Shaft) (l : LentIs done heights c done' o) where
        low : Lowered f to.shaft.0 c done heights done' o
        low = lowered f to.shaft.0 c done heights done' o l r.way.sized lend_ready.0.0 t.usable t.not_second lend_ready.0.1 full

        some_empty : 0 < f.e
        some_empty =
            omega (arith, done_floor r.way at.shaft.0 r.stands.usable, r.stands.unpassed, r.stands.standing, r.way.held.shaped.heights at.shaft.0)

        way : OnTheWay f tops goal done' heights slots
        way =
            fewer_passed r.way done' low.sized low.less
            (everywhere _ c (λ u. low.floor some_empty (done_floor r.way c u))
            (λ x z u. omega (arith, low.others x z, done_floor r.way x u)))

        same_b : height_in done' to.shaft.0 ≡ height_in done to.shaft.0
        same_b = low.others to.shaft.0 (Ne-symm t.not_second)

        same_a : height_in done' at.shaft.0 ≡ height_in done at.shaft.0
        same_a = low.others at.shaft.0 (Ne-symm t.not_first)

        over_low : Over (passed_rows goal done') (stack (store_of f heights slots)) (wanted_in goal done to.shaft.0) at.shaft.0
            (downward (store_of f heights slots) at.shaft.0 (at.row.0 - 1))
        over_low = record { stands = over.stands; unpassed = omega (arith, over.unpassed, passed_length goal done at.shaft.0, passed_length goal done' at.shaft.0, same_a) }

        under : length (downward (store_of f heights slots) at.shaft.0 (at.row.0 - 1)) ≡ at.row.0 - 1
        under = downward_length (store_of f heights slots) at.shaft.0 (at.row.0 - 1)

        covered : n.cover + suc (length (downward (store_of f heights slots) at.shaft.0 (at.row.0 - 1))) ≡ length (stack (store_of f heights slots) at.shaft.0)
        covered = omega (arith, v.cover, under, r.stands.unpassed, stack_length (store_of f heights slots) at.shaft.0)

        in_the_way : n.load + length (passed_rows goal done' to.shaft.0) ≡ length (stack (store_of f heights slots) to.shaft.0)
        in_the_way = omega (arith, v.in_way, r.row, passed_length goal done' to.shaft.0, same_b, stack_length (store_of f heights slots) to.shaft.0)

        place : length (passed_rows goal done' to.shaft.0) < depth_in f to.shaft.0
        place = omega (arith, passed_length goal done' to.shaft.0, same_b, r.wanted, tops_deep r.way to.shaft.0)

        both_full : depth_in f at.shaft.0 + depth_in f to.shaft.0
            ≡ f.e + (length (stack (store_of f heights slots) at.shaft.0) + length (stack (store_of f heights slots) to.shaft.0))
        both_full = simp stack_length (omega (arith, v.outside))

        top : length (passed_rows goal done' c) < length (stack (store_of f heights slots) c)
        top = omega (arith, low.top, passed_length goal done' c, stack_length (store_of f heights slots) c)

        allowed : Allowed (store_of f heights slots) c to.shaft.0
        allowed =
            legal_allowed (store_of f heights slots)
            (turn_legal way.halfway.passed over_low n.cover n.load r.stands.usable r.usable r.differ place covered in_the_way both_full t.usable t.not_first
            t.not_second top)

        pub turn_ready : count < length came → CanCarry heights c to.shaft.0 × (count < length came)
        turn_ready h = (can_carry (store_of f heights slots) c to.shaft.0 r.way.held.shaped allowed, h)

        pub turned_is : count < length came → {heights' slots' out : List ℕ} {count' : ℕ} → PutIs heights slots c to.shaft.0 count came heights' slots' count' out
            → TurnedIs f tops goal done heights slots at to count came done' heights' slots' (record { owed = o; count = count' }) out
        turned_is h {heights'} {slots'} {out} {count'} k = go (carried_on f.m f.depths r.way.held.shaped allowed h k)
          where
            go : CarriedOn (store_of f heights slots) c to.shaft.0 count came (store_of f heights' slots') count' out
                → TurnedIs f tops goal done heights slots at to count came done' heights' slots' (record { owed = o; count = count' }) out
            go on =
                let x = turned way.halfway.passed over_low n.cover n.load r.stands.usable r.usable r.differ place covered in_the_way both_full t.usable t.not_first
                t.not_second top on.moved in
                let w : Ready f tops goal done' heights' slots' at to = record {
                  way = way_after way (record { shaped = on.went.shaped; all = x.passed.all }) (run_one on.moved) x.passed;
                  usable = r.usable;
                  wanted = omega (arith, same_b, r.wanted);
                  row = omega (arith, same_b, r.row);
                  stands = wanted_as (over_stands f goal done' heights' slots' x.over r.stands.usable (omega (arith, under, r.stands.unpassed)));
                  differ = r.differ;
                } in
                record {
                  went = on.went;
                  ready = w;
                  same = simp stack_length at (others_same on.moved at.shaft.0 (Ne-symm t.not_first) r.differ);
                  near = omega (arith, simp stack_length at (entered_higher on.moved));
                  owed = low.owed;
                  room = λ _. omega (arith, x.outside, stack_length (store_of f heights' slots') at.shaft.0, stack_length (store_of f heights' slots') to.shaft.0);
                }
              where
                wanted_as : Stands f heights' slots' done' (wanted_in goal done to.shaft.0) at.shaft.0 at.row.0
                    → Stands f heights' slots' done' (wanted_in goal done' to.shaft.0) at.shaft.0 at.row.0
                wanted_as z = rw same_b z
