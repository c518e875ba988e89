-- Laws of one lift made in place: it is a legal lift of the store, one more of the list.
use mathlib.Core.List.{List, [], ◌∷◌}
use mathlib.Core.Path.{◌≡◌, refl, ap, ap₂, ◌∙◌}
use Prim.Native.Nat.{ℕ, ◌+◌, ◌%◌, ◌≤◌, ◌<◌}
use native.Mathlib.Omega.{arith}
use lib.ListN.{length, set, length-set}
use Rattle.stacks.specs.Run.{Step, done, step}
use Rattle.stacks.specs.Moves.{lift}
use Rattle.lifts.specs.declared.Carried.{Carried}
use Rattle.lifts.specs.Bytes.{lift_byte}
use Rattle.lifts.specs.Carried.{CanCarry, CarriedIs}
use Rattle.store.specs.declared.Store.{Store}
use Rattle.store.specs.Slots.{held, depth, stack}
use Rattle.store.specs.Sound.{Shaped}
use Rattle.store.specs.Lifts.{Allowed, lifted}
use Rattle.store.proofs.Lifting.{carried_store}
use Rattle.store.proofs.Played.{run_leads}
use Rattle.store.proofs.Views.{lifted_shaped, lift_step}
use Rattle.moves.specs.Put.{PutIs}
use Rattle.moves.specs.Went.{Went}
use Rattle.moves.proofs.Stepping.{steps_none, steps_then}
use Rattle.moves.proofs.Writing.{set_written}

-- what the code has done is the lift
pub put : (heights slots came : List ℕ) (a b count c : ℕ) {heights' slots' : List ℕ} {r : Carried} → CanCarry heights a b
    → CarriedIs heights slots a b heights' slots' r → c ≡ lift_byte (a % 16) (b % 16)
    → PutIs heights slots a b count came heights' slots' (count + 1) (set came count c)
put heights slots came a b count c q k e =
    let i : a % 16 ≡ a = omega (arith, q.left_below) in
    let j : b % 16 ≡ b = omega (arith, q.entered_below) in
    record {
      store = λ m depths. carried_store (held m depths heights slots) a b k.heights_are k.slots_are;
      end = refl;
      byte = ap (set came count) (e ∙ ap₂ lift_byte i j);
    }

pub went_none : (s : Store) (at : ℕ) (came : List ℕ) → Shaped s → Went s at came 0 s at came
went_none s at came h = record { steps = steps_none s at came; shaped = h; room = refl; few = omega arith }

pub went_within : {s t : Store} {at at' k n : ℕ} {came out : List ℕ} → k ≤ n → Went s at came k t at' out → Went s at came n t at' out
went_within f w = record { steps = w.steps; shaped = w.shaped; room = w.room; few = omega (arith, w.few) }

pub went_then : {s t u : Store} {at at' at'' k n : ℕ} {came mid out : List ℕ} → Went s at came k t at' mid → Went t at' mid n u at'' out → at + (k + n) ≤ length came
    → Went s at came (k + n) u at'' out
went_then v w f = record {
  steps = steps_then v.steps w.steps (omega (arith, v.few, w.few));
  shaped = w.shaped;
  room = w.room ∙ v.room;
  few = omega (arith, v.few, w.few);
}

-- One lift made in place.
pub record CarriedOn (s : Store) (a b at : ℕ) (came : List ℕ) (t : Store) (at' : ℕ) (out : List ℕ) : Type 0 where
  pub went : Went s at came 1 t at' out
  pub moved : Step s.m (depth s) (lift a b) (stack s) (stack t)

pub carried_on : (m : ℕ) (depths : List ℕ) {heights slots came heights' slots' out : List ℕ} {a b at at' : ℕ} → Shaped (held m depths heights slots) → Allowed (held m depths heights slots) a b
    → at < length came → PutIs heights slots a b at came heights' slots' at' out → CarriedOn (held m depths heights slots) a b at came (held m depths heights' slots') at' out
unfolding lifted
carried_on m depths {heights} {slots} {came} {a = a} {b} {at} p q f c =
    rw (c.store m depths, c.end, c.byte)
    (record {
      went = record {
        steps = record {
          lifts = lift_byte a b ∷ [];
          leads = run_leads p (lifted_shaped (held m depths heights slots) a b p q) (record { shafts = refl; depths = refl }) (step (lift_step (held m depths heights slots) a b p q) done);
          count = refl;
          bytes = set_written came at (lift_byte a b) f;
        };
        shaped = lifted_shaped (held m depths heights slots) a b p q;
        room = length-set came at (lift_byte a b);
        few = omega arith;
      };
      moved = lift_step (held m depths heights slots) a b p q;
    })
