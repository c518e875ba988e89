-- An answer of the list maker, put together of what it says and leaves; and the list of a plan, which is what was made.
use mathlib.Core.List.{List}
use Prim.Native.Nat.{ℕ}
use native.Mathlib.Omega.{arith}
use mathlib.Core.Path.{◌≡◌}
use Rattle.std.specs.Prelude.{Result}
use Rattle.store.specs.declared.Store.{Store}
use Rattle.plans.specs.declared.PlanFault.{PlanFault}
use Rattle.making.specs.Made.{MadeIs}
use Rattle.plans.specs.Promises.{PlanSays, Lists, PlanLeaves, PlanIs}

-- an answer that is right, with the lent bytes as they should be
pub answered_as : (s t : Store) (came : List ℕ) (a : Result ℕ PlanFault) {out : List ℕ} {r : Result ℕ PlanFault} → r ≡ a → PlanSays s t came a → PlanLeaves s t came out a → PlanIs s t came out r
answered_as s t came a e p q = rw e (record { answer = p; left = q })

-- a list was made, which is empty where there is nothing to do
pub lists_made : (s t : Store) (came : List ℕ) {k : ℕ} {out : List ℕ} → MadeIs s t came k out → Lists s t came out k
lists_made s t came l =
    let w = l.steps in
    record {
      lifts = w.lifts;
      leads = w.leads;
      count = omega (arith, w.count);
      short = omega (arith, w.count, l.short);
      bytes = w.bytes;
      nothing = l.nothing;
    }
