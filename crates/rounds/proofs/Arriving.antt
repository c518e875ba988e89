-- Round after round: fewer rows are left after each, and where none is left the store is the goal.
use mathlib.Core.List.{List}
use mathlib.Core.Path.{◌≡◌, refl, sym, ap, ◌∙◌, subst}
use Prim.Native.Nat.{ℕ, suc, ◌+◌, ◌*◌, ◌-◌, ◌≤◌, ◌<◌}
use native.Mathlib.Nat.{suc-mul}
use native.Mathlib.Omega.{arith}
use lib.ListN.{length}
use Rattle.stacks.specs.Run.{Stacks, Usable}
use Rattle.stacks.proofs.Sums.{term_le_sum, sum_differ_one}
use Rattle.stacks.proofs.RoundLaws.{finished}
use Rattle.store.specs.declared.Store.{Store}
use Rattle.store.specs.Slots.{stack}
use Rattle.store.proofs.Rows.{stack_length}
use Rattle.store.proofs.Views.{same_stacks}
use Rattle.moves.specs.Written.{Steps}
use Rattle.moves.proofs.Stepping.{steps_none, steps_then}
use Rattle.rooms.specs.declared.Frame.{Frame}
use Rattle.lifts.specs.Lifting.{height_in}
use Rattle.rooms.specs.Frames.{store_of, Fits}
use Rattle.rooms.proofs.Bottoms.{shaped_fits}
use Rattle.choices.specs.declared.Round.{Round}
use Rattle.agreeing.specs.Agreeing.{Finished}
use Rattle.choices.specs.Choices.{RoundFor, SomeRound}
use Rattle.turns.specs.Turning.{OnTheWay}
use Rattle.serving.specs.Serving.{deepest, OneMore}
use Rattle.rounds.specs.Rounds.{GrownIs, rows_left, ArrivedIs}
use Rattle.turns.proofs.Way.{passed_length, somewhere}

-- A row that is not passed is left, and passing it leaves one fewer.
some_left : (f : Frame) (tops done : List ℕ) (b : ℕ) → Usable f.m b → height_in done b < height_in tops b → 0 < rows_left f tops done
unfolding rows_left
some_left f tops done b u h = omega (arith, term_le_sum f.m (λ x. height_in tops x - height_in done x) b u)

one_fewer : (f : Frame) (tops done done' : List ℕ) (b : ℕ) → Usable f.m b → height_in done b < height_in tops b → OneMore b done done'
    → rows_left f tops done ≡ suc (rows_left f tops done')
unfolding rows_left
one_fewer f tops done done' b u h m =
    omega (
      arith,
      m.0,
      sum_differ_one f.m (λ x. height_in tops x - height_in done x) (λ x. height_in tops x - height_in done' x) b u
          (λ x _ n. ap (λ (k : ℕ). height_in tops x - k) (sym (m.1 x n))),
    )

pub record Rounding (f : Frame) (tops goal done₀ heights₀ slots₀ came done heights slots : List ℕ) (count : ℕ) (out : List ℕ) : Type 0 where
  pub way : OnTheWay f tops goal done heights slots
  pub steps : Steps (store_of f heights₀ slots₀) 0 came (store_of f heights slots) count out
  pub sized : length out ≡ length came
  pub fits : count + rows_left f tops done * (4 * deepest f + 8) ≤ rows_left f tops done₀ * (4 * deepest f + 8)

pub rounding_first : {f : Frame} {tops goal done heights slots : List ℕ} (came : List ℕ) → OnTheWay f tops goal done heights slots
    → Rounding f tops goal done heights slots came done heights slots 0 came
rounding_first {f} {heights = heights} {slots} came w = record { way = w; steps = steps_none (store_of f heights slots) 0 came; sized = refl; fits = omega arith }

module _ {f : Frame} {tops goal done₀ heights₀ slots₀ came done heights slots : List ℕ} {count : ℕ} {out : List ℕ}
    (u : Rounding f tops goal done₀ heights₀ slots₀ came done heights slots count out)
  where
    pub choose_ready : (Finished f tops done → ⊥) → Fits f tops × (Fits f heights × SomeRound f tops goal done heights slots)
    choose_ready n = (
      shaped_fits f tops goal u.way.goal_shaped,
      (shaped_fits f heights slots u.way.held.shaped, record { left = n; somewhere = somewhere u.way }),
    )

    module _ (most : rows_left f tops done₀ * (4 * deepest f + 8) ≤ length came) {r : Round} (q : RoundFor f tops goal done heights slots r) where
      left : (rows_left f tops done * (4 * deepest f + 8)) ≡ (rows_left f tops done - 1) * (4 * deepest f + 8) + (4 * deepest f + 8)
      left =
          let e : rows_left f tops done ≡ suc (rows_left f tops done - 1) = omega (arith, some_left f tops done r.to.0 q.usable q.wanted) in
          ap (λ (k : ℕ). k * (4 * deepest f + 8)) e ∙ omega (arith, suc-mul (rows_left f tops done - 1) (4 * deepest f + 8))

      pub play_ready : OnTheWay f tops goal done heights slots × (RoundFor f tops goal done heights slots r × (count + (4 * deepest f + 8) ≤ length out))
      play_ready = (u.way, (q, omega (arith, u.fits, u.sized, left)))

      pub rounding_next : {done' heights' slots' : List ℕ} {count' : ℕ} {out' : List ℕ}
          → GrownIs f tops goal done heights slots r.to.0 (4 * deepest f + 8) count out done' heights' slots' count' out'
          → Rounding f tops goal done₀ heights₀ slots₀ came done' heights' slots' count' out' × (rows_left f tops done' < rows_left f tops done)
      rounding_next {done'} g =
          let e = one_fewer f tops done done' r.to.0 q.usable q.wanted g.more in
          let k : rows_left f tops done - 1 ≡ rows_left f tops done' = omega arith in
          let l : rows_left f tops done * (4 * deepest f + 8) ≡ rows_left f tops done' * (4 * deepest f + 8) + (4 * deepest f + 8) = left ∙ rw k in (
            record {
              way = g.way;
              steps = steps_then u.steps g.went.steps (omega (arith, g.went.few, play_ready.1.1, u.sized));
              sized = g.went.room ∙ u.sized;
              fits = omega (arith, g.went.few, u.fits, l);
            },
            omega arith,
          )

    pub all_passed : Finished f tops done → ArrivedIs f tops goal done₀ heights₀ slots₀ came done heights slots count out
    all_passed z =
        let same : stack (store_of f heights slots) ≡ stack (store_of f tops goal)
        = finished u.way.halfway (λ x p. omega (arith, z x p, passed_length goal done x, stack_length (store_of f tops goal) x)) in
        let store : store_of f heights slots ≡ store_of f tops goal
        = same_stacks (store_of f heights slots) (store_of f tops goal) u.way.held.shaped u.way.goal_shaped (record { shafts = refl; depths = refl }) (λ x. ap (λ (S : Stacks). S x) same) in
        record {
          store = store;
          passed = z;
          steps = subst (λ (s : Store). Steps (store_of f heights₀ slots₀) 0 came s count out) store u.steps;
          few = omega (arith, u.fits);
        }
