-- A placement under way: what holds before each lift of it, and that the next lift keeps it.
use mathlib.Core.List.{List}
use mathlib.Core.Logic.{◌≢◌}
use mathlib.Core.Path.{◌≡◌, refl, sym, ap, ◌∙◌, subst⁻¹, subst₂}
use Prim.Native.Nat.{ℕ, suc, ◌+◌, ◌-◌, ◌≤◌, ◌<◌}
use native.Mathlib.Decide.{dec_lt, dec_le, ℕ_discrete}
use native.Mathlib.Omega.{arith}
use lib.ListN.{length}
use Rattle.stacks.specs.Run.{Stacks, Usable}
use Rattle.stacks.specs.Placing.{Onto, Passed, Over, Placing, lifts_left, Next, heights_of}
use Rattle.stacks.proofs.Bottoms.{onto_same}
use Rattle.stacks.proofs.Sums.{everywhere}
use Rattle.stacks.proofs.Stores.{put_two, put_two_first, put_two_second, put_two_other}
use Rattle.stacks.proofs.PlacingLaws.{left_plain, left_pass, two_rooms, full_outside, Advanced, advance, home}
use Rattle.stacks.proofs.RoundLaws.{next_legal, home_legal}
use Rattle.store.specs.declared.Store.{Store}
use Rattle.store.specs.Slots.{slot, downward, stack}
use Rattle.store.specs.Sound.{Shaped}
use Rattle.store.specs.Lifts.{Allowed}
use Rattle.store.proofs.Rows.{downward_length, stack_length}
use Rattle.reach.proofs.Agree.{shaped_within}
use Rattle.lifts.specs.Carried.{CanCarry}
use Rattle.moves.specs.Put.{PutIs}
use Rattle.moves.specs.Written.{Steps}
use Rattle.moves.proofs.Stepping.{steps_none, steps_then}
use Rattle.store.proofs.Lifting.{can_carry}
use Rattle.moves.proofs.Carrying.{CarriedOn, carried_on}
use Rattle.rooms.specs.declared.Frame.{Frame}
use Rattle.rooms.specs.declared.Lift.{Lift}
use Rattle.rooms.specs.declared.Spot.{Spot}
use Rattle.ahead.specs.declared.Ahead.{Ahead}
use Rattle.lifts.specs.Lifting.{height_in}
use Rattle.rooms.specs.Frames.{store_of, depth_in, Fits, Held}
use Rattle.rooms.specs.Rooms.{SomeOutside}
use Rattle.ahead.specs.Ahead.{CanSee, AheadIs, FollowIs}
use Rattle.placing.specs.Placed.{lifts_ahead, CanPlace, PlacedIs}
use Rattle.rooms.proofs.Bottoms.{stack_onto, row_onto, legal_allowed, shaped_fits, heights_are, one_room}

-- what stays of a store while the cassette of row y of a goes to row y' of b: the rows under the two, and every other shaft
pub kept : Store → ℕ → ℕ → ℕ → ℕ → Stacks
kept s a y b y' = put_two (stack s) a (downward s a (y - 1)) b (downward s b (y' - 1))

pub record Underway (f : Frame) (heights₀ slots₀ : List ℕ) (a₀ y₀ b y' at₀ : ℕ) (came heights slots : List ℕ) (a y : ℕ) (n : Ahead) (at : ℕ) (out : List ℕ) : Type 0 where
  pub under : List ℕ
  pub row : y ≡ suc (length under)
  pub target : y' ≡ suc (length (kept (store_of f heights₀ slots₀) a₀ y₀ b y' b))
  pub placing : Placing f.m (depth_in f) f.e (kept (store_of f heights₀ slots₀) a₀ y₀ b y') b (slot (store_of f heights₀ slots₀) a₀ y₀) (stack (store_of f heights slots)) a under
      n.cover n.load n.outside
  pub steps : Steps (store_of f heights₀ slots₀) at₀ came (store_of f heights slots) at out
  pub shaped : Shaped (store_of f heights slots)
  pub sized : length out ≡ length came
  pub fits : at + lifts_left n.cover n.load n.outside ≤ at₀ + lifts_ahead f heights₀ a₀ y₀ b y'

-- one lift at least is left
left_some : (k l r : ℕ) → 0 < lifts_left k l r
left_some k l r = elim (dec_le (k + l) r) [ yes h ↦ omega (arith, left_plain k l r h) | no h ↦ omega (arith, left_pass k l r (omega arith)) ]

-- the numbers of a placement may be named otherwise
placing_as : {m : ℕ} {d : ℕ → ℕ} {e : ℕ} {P : Stacks} {b v : ℕ} {S : Stacks} {a : ℕ} {p : List ℕ} {k l r k' l' r' : ℕ} → Placing m d e P b v S a p k l r
    → k ≡ k' → l ≡ l' → r ≡ r' → Placing m d e P b v S a p k' l' r'
placing_as h ek el er = rw (← ek, ← el, ← er) h

-- What stays is passed at the start, and the cassette is not.
module _ (f : Frame) (heights slots : List ℕ) (a y b y' : ℕ) (h : Held f heights slots) (q : CanPlace f heights a y b y') where
  kept_first : kept (store_of f heights slots) a y b y' a ≡ downward (store_of f heights slots) a (y - 1)
  unfolding kept
  kept_first = put_two_first (stack (store_of f heights slots)) a _ b _ q.differ

  kept_second : kept (store_of f heights slots) a y b y' b ≡ downward (store_of f heights slots) b (y' - 1)
  unfolding kept
  kept_second = put_two_second (stack (store_of f heights slots)) a _ b _

  kept_other : (x : ℕ) → x ≢ a → x ≢ b → kept (store_of f heights slots) a y b y' x ≡ stack (store_of f heights slots) x
  unfolding kept
  kept_other = put_two_other (stack (store_of f heights slots)) a _ b _

  length_first : length (kept (store_of f heights slots) a y b y' a) ≡ y - 1
  length_first = ap length kept_first ∙ downward_length (store_of f heights slots) a (y - 1)

  length_second : length (kept (store_of f heights slots) a y b y' b) ≡ y' - 1
  length_second = ap length kept_second ∙ downward_length (store_of f heights slots) b (y' - 1)

  passed : Passed f.m (depth_in f) f.e (kept (store_of f heights slots) a y b y') (stack (store_of f heights slots))
  passed = record {
    onto = everywhere _ a (rw kept_first (stack_onto (store_of f heights slots) a (y - 1) (omega (arith, q.stands))))
        (λ x na. everywhere (λ x. x ≢ a → Onto (kept (store_of f heights slots) a y b y' x) (stack (store_of f heights slots) x)) b
        (λ _. rw kept_second (stack_onto (store_of f heights slots) b (y' - 1) (omega (arith, q.reaches))))
        (λ x nb na. onto_same (sym (kept_other x na nb))) x na);
    floor = everywhere _ a (λ _. omega (arith, length_first, q.floor_from, q.row))
        (λ x na. everywhere (λ x. x ≢ a → Usable f.m x → depth_in f x ≤ f.e + length (kept (store_of f heights slots) a y b y' x)) b
        (λ _ _. omega (arith, length_second, q.floor_to, q.some_row))
        (λ x nb na u. rw (kept_other x na nb) (one_room f heights slots h x u)) x na);
    within = shaped_within (store_of f heights slots) h.shaped;
    all = h.all;
  }

  over : Over (kept (store_of f heights slots) a y b y') (stack (store_of f heights slots)) (slot (store_of f heights slots) a y) a (downward (store_of f heights slots) a (y - 1))
  over = record {
    stands = row_onto (store_of f heights slots) a y q.row q.stands;
    unpassed = omega (arith, length_first, downward_length (store_of f heights slots) a (y - 1));
  }

  rooms : depth_in f a + depth_in f b ≤ f.e + (height_in heights a + height_in heights b)
  rooms = simp stack_length at (two_rooms passed a b q.differ q.first q.second)

  pub see_first : Fits f heights × CanSee f heights a y b y'
  see_first =
      (shaped_fits f heights slots h.shaped, record { first = q.first; second = q.second; stands = q.stands; some_row = q.some_row; reaches = q.reaches; rooms = rooms })

  pub underway_first : (at : ℕ) (came : List ℕ) (n : Ahead) → AheadIs f heights a y b y' n → Underway f heights slots a y b y' at came heights slots a y n at came
  underway_first at came n z =
      let k : height_in heights a - y ≡ n.cover = omega (arith, z.cover) in
      let l : suc (height_in heights b) - y' ≡ n.load = omega (arith, z.in_way) in
      let r : f.e + (height_in heights a + height_in heights b) - (depth_in f a + depth_in f b) ≡ n.outside = omega (arith, z.outside) in
      record {
        under = downward (store_of f heights slots) a (y - 1);
        row = omega (arith, downward_length (store_of f heights slots) a (y - 1), q.row);
        target = omega (arith, length_second, q.some_row);
        placing = record {
          passed = passed;
          over = over;
          differ = q.differ;
          first = q.first;
          second = q.second;
          place = omega (arith, length_second, q.has_row, q.some_row);
          covered = omega (arith, z.cover, downward_length (store_of f heights slots) a (y - 1), stack_length (store_of f heights slots) a, q.row);
          in_the_way = omega (arith, z.in_way, length_second, stack_length (store_of f heights slots) b, q.some_row);
          outside = simp stack_length z.outside;
          way = λ p. omega (arith, z.outside, q.way (rw (k, l) p));
        };
        steps = steps_none (store_of f heights slots) at came;
        shaped = h.shaped;
        sized = refl;
        fits = rw (k, l, r) (omega arith);
      }

-- The loop: before each lift, and after it.
module _ {f : Frame} {heights₀ slots₀ : List ℕ} {a₀ y₀ b y' at₀ : ℕ} {came heights slots : List ℕ} {a y : ℕ} {n : Ahead} {at : ℕ} {out : List ℕ}
    (u : Underway f heights₀ slots₀ a₀ y₀ b y' at₀ came heights slots a y n at out)
  where
    -- the sizes of what is ahead
    pub few_ahead : (n.cover < 256) × (n.load < 256)
    few_ahead =
        let w = u.placing in (
          omega (arith, w.covered, stack_length (store_of f heights slots) a, u.shaped.heights a, u.shaped.rows a),
          omega (arith, w.in_the_way, stack_length (store_of f heights slots) b, u.shaped.heights b, u.shaped.rows b),
        )

    pub some_outside : 0 < n.outside → SomeOutside f heights a b
    some_outside p none =
        let w = u.placing in
        omega (
          arith,
          w.outside,
          full_outside w.passed a b w.differ w.first w.second
              (λ c z na nb. full c z na nb),
        )
      where
        full : (c : ℕ) → Usable f.m c → c ≢ a → c ≢ b → depth_in f c ≤ length (stack (store_of f heights slots) c)
        full c z na nb =
            elim (dec_lt (height_in heights c) (depth_in f c)) [
              | yes r ↦ absurd (none c (record { usable = z; not_first = na; not_second = nb; room = r }))
              | no r ↦ omega (arith, stack_length (store_of f heights slots) c)
            ]

    pub next_ready : 0 < n.cover + n.load → Fits f heights × (((0 < n.outside) × (0 < n.cover + n.load)) × (((n.cover < 256) × (n.load < 256)) × SomeOutside f heights a b))
    next_ready p = let z = u.placing.way p in (shaped_fits f heights slots u.shaped, ((z, p), (few_ahead, some_outside z)))

    room_left : at₀ + lifts_ahead f heights₀ a₀ y₀ b y' ≤ length came → at < length out
    room_left h = omega (arith, h, u.fits, u.sized, left_some n.cover n.load n.outside)

    -- the next lift can be made
    module _ {x z : ℕ} (t : Next f.m (depth_in f) a b n.cover n.load n.outside (height_in heights) x z) where
      next : Next f.m (depth_in f) a b n.cover n.load n.outside (heights_of (stack (store_of f heights slots))) x z
      next = rw (heights_are f heights slots) t

      next_allowed : Allowed (store_of f heights slots) x z
      next_allowed = legal_allowed (store_of f heights slots) (next_legal u.placing next)

      pub lift_ready : at₀ + lifts_ahead f heights₀ a₀ y₀ b y' ≤ length came → CanCarry heights x z × (at < length out)
      lift_ready h = (can_carry (store_of f heights slots) x z u.shaped next_allowed, room_left h)

      pub entered_room : (z < 16) × (height_in heights z < 16)
      entered_room = omega (arith, next_allowed, u.shaped.shafts, u.shaped.rows z)

      -- it was made, and where the cassette is now is known
      module _ (h : at₀ + lifts_ahead f heights₀ a₀ y₀ b y' ≤ length came) {heights' slots' : List ℕ} {at' : ℕ} {out' : List ℕ}
          (c : PutIs heights slots x z at out heights' slots' at' out') {p r : Spot} {l : Lift} (pa : p.shaft.0 ≡ a) (py : p.row.0 ≡ y) (lx : l.from.0 ≡ x)
          (lz : l.to.0 ≡ z) (w : FollowIs p n.cover l (height_in heights z) r)
        where
          on : CarriedOn (store_of f heights slots) x z at out (store_of f heights' slots') at' out'
          on = carried_on f.m f.depths u.shaped next_allowed (room_left h) c

          adv : Advanced f.m (depth_in f) f.e (kept (store_of f heights₀ slots₀) a₀ y₀ b y') b (slot (store_of f heights₀ slots₀) a₀ y₀) (stack (store_of f heights slots))
              (stack (store_of f heights' slots')) a u.under n.cover n.load n.outside x z
          adv = advance u.placing next on.moved

          -- the code follows the cassette
          record Followed : Type 0 where
            shaft : r.shaft.0 ≡ adv.shaft
            row : r.row.0 ≡ suc (length adv.under)

          stay : (x ≡ a → 0 < n.cover) → Followed
          stay g =
              let e = w.stayed (λ q. g (sym lx ∙ q ∙ pa)) in
              let d = adv.stayed g in
              record { shaft = e.0 ∙ pa ∙ sym d.0; row = e.1 ∙ py ∙ u.row ∙ ap (λ (q : List ℕ). suc (length q)) (sym d.1) }

          followed : Followed
          followed =
              elim (ℕ_discrete x a) [
                | no e ↦ stay (λ q. absurd (e q))
                | yes e ↦ elim (dec_lt 0 n.cover) [ yes k ↦ stay (λ _. k) | no k ↦ go e (omega arith) ]
              ]
            where
              go : x ≡ a → n.cover ≡ 0 → Followed
              go e k =
                  let g = w.lifted (lx ∙ e ∙ sym pa) k in
                  let d = adv.lifted e k in
                  record {
                    shaft = g.0 ∙ lz ∙ sym d.0;
                    row = g.1 ∙ ap suc (sym (stack_length (store_of f heights slots) z)) ∙ ap (λ (q : List ℕ). suc (length q)) (sym d.1);
                  }

          height_at : (i : ℕ) → length (stack (store_of f heights' slots') i) ≡ height_in heights' i
          height_at = stack_length (store_of f heights' slots')

          pub see_next : Fits f heights' × CanSee f heights' r.shaft.0 r.row.0 b y'
          see_next =
              let g = adv.placing in
              let e = followed in (
                shaped_fits f heights' slots' on.went.shaped,
                subst₂ (λ (a y : ℕ). CanSee f heights' a y b y') (sym e.shaft) (sym e.row)
                    (record {
                      first = g.first;
                      second = g.second;
                      stands = omega (arith, g.covered, height_at adv.shaft);
                      some_row = omega (arith, u.target);
                      reaches = omega (arith, u.target, g.in_the_way, height_at b);
                      rooms = simp height_at at (two_rooms g.passed adv.shaft b g.differ g.first g.second);
                    }),
              )

          pub underway_next : (n' : Ahead) → AheadIs f heights' r.shaft.0 r.row.0 b y' n'
              → Underway f heights₀ slots₀ a₀ y₀ b y' at₀ came heights' slots' r.shaft.0 r.row.0 n' at' out'
              × (lifts_left n'.cover n'.load n'.outside < lifts_left n.cover n.load n.outside)
          underway_next n' q =
              go (subst₂ (λ (a y : ℕ). AheadIs f heights' a y b y' n') followed.shaft followed.row q)
            where
              go : AheadIs f heights' adv.shaft (suc (length adv.under)) b y' n'
                  → Underway f heights₀ slots₀ a₀ y₀ b y' at₀ came heights' slots' r.shaft.0 r.row.0 n' at' out'
                  × (lifts_left n'.cover n'.load n'.outside < lifts_left n.cover n.load n.outside)
              go q =
                  let g = adv.placing in
                  let k : adv.cover ≡ n'.cover = omega (arith, q.cover, g.covered, height_at adv.shaft) in
                  let l : adv.in_way ≡ n'.load = omega (arith, q.in_way, g.in_the_way, height_at b, u.target) in
                  let o : adv.outside ≡ n'.outside = omega (arith, q.outside, g.outside, height_at adv.shaft, height_at b) in
                  let fewer : lifts_left n'.cover n'.load n'.outside < lifts_left n.cover n.load n.outside = rw (← k, ← l, ← o) adv.fewer in (
                    subst⁻¹ (λ (a : ℕ). Underway f heights₀ slots₀ a₀ y₀ b y' at₀ came heights' slots' a r.row.0 n' at' out') followed.shaft
                        (record {
                          under = adv.under;
                          row = followed.row;
                          target = u.target;
                          placing = placing_as g k l o;
                          steps = steps_then u.steps on.went.steps (omega (arith, on.went.few, room_left h, u.sized));
                          shaped = on.went.shaped;
                          sized = on.went.room ∙ u.sized;
                          fits = omega (arith, on.went.few, fewer, u.fits);
                        }),
                    fewer,
                  )

    -- nothing is in the way any more: the last lift can be made, and the cassette is in place
    module _ (none : n.cover + n.load ≤ 0) where
      last_allowed : Allowed (store_of f heights slots) a b
      last_allowed = legal_allowed (store_of f heights slots) (home_legal u.placing (omega arith))

      pub last_ready : at₀ + lifts_ahead f heights₀ a₀ y₀ b y' ≤ length came → CanCarry heights a b × (at < length out)
      last_ready h = (can_carry (store_of f heights slots) a b u.shaped last_allowed, room_left h)

      pub placed_last : Held f heights₀ slots₀ → CanPlace f heights₀ a₀ y₀ b y' → at₀ + lifts_ahead f heights₀ a₀ y₀ b y' ≤ length came
          → {heights' slots' : List ℕ} {at' : ℕ} {out' : List ℕ} → PutIs heights slots a b at out heights' slots' at' out'
          → PlacedIs f heights₀ slots₀ a₀ y₀ b y' at₀ came heights' slots' at' out'
      placed_last v q h {heights'} {slots'} {at'} {out'} c = go (carried_on f.m f.depths u.shaped last_allowed (room_left h) c)
        where
          go : CarriedOn (store_of f heights slots) a b at out (store_of f heights' slots') at' out' → PlacedIs f heights₀ slots₀ a₀ y₀ b y' at₀ came heights' slots' at' out'
          go on =
              let g = home u.placing (omega arith) (omega arith) on.moved in
              record {
                went = record {
                  steps = steps_then u.steps on.went.steps (omega (arith, on.went.few, room_left h, u.sized));
                  shaped = on.went.shaped;
                  room = on.went.room ∙ u.sized;
                  few = omega (arith, on.went.few, u.fits, left_some n.cover n.load n.outside);
                };
                held = record { shaped = on.went.shaped; all = g.1.all };
                placed = rw (kept_second f heights₀ slots₀ a₀ y₀ b y' v q) at g.0;
                first = rw (kept_first f heights₀ slots₀ a₀ y₀ b y' v q) at (g.1.onto a₀);
                others = λ x na nb. rw (kept_other f heights₀ slots₀ a₀ y₀ b y' v q x na nb) at (g.1.onto x);
              }
