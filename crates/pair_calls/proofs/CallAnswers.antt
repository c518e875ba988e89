-- The answers of the calls on two images: the first fault of reading, and where both are read, the answer on their stores.
use mathlib.Core.List.{List}
use mathlib.Core.Bool.{Bool}
use mathlib.Core.Path.{◌≡◌, sym, ap, ap₂, ◌∙◌, subst₂}
use Prim.Native.Nat.{ℕ}
use Rattle.std.specs.Prelude.{Result, Err}
use Rattle.std.specs.Result.{result_unwrap_or}
use Rattle.store.specs.declared.Store.{Store}
use Rattle.pairs.specs.declared.PairFault.{PairFault}
use Rattle.reachable.specs.Numbers.{reach_number}
use Rattle.reachable.specs.Promises.{ReachSays}
use Rattle.plans.specs.declared.PlanFault.{PlanFault}
use Rattle.plans.specs.Numbers.{plan_number}
use Rattle.plans.specs.Promises.{PlanIs}
use Rattle.image.specs.declared.ReadFault.{ReadFault}
use Rattle.image.specs.Numbers.{read_fault_number, read_number}
use Rattle.calls.specs.declared.Both.{Both}
use Rattle.calls.specs.Shared.{answer_of, RefusedCall, store_in, read_faults, BothAre}
use Rattle.calls.proofs.Readings.{unread, both_read}
use Rattle.pair_calls.specs.PairCalls.{ReachGives, ReachCallIs, PlanGives, PlanCallIs}

module _ {a b : List ℕ} {o : Both} (p : BothAre a b o) where
  module _ {f : ReadFault} (e : o.answer ≡ Err f) {k : ℕ} (g : k ≡ read_fault_number f) where
    fault_first : k ≡ read_faults a b
    fault_first = g ∙ sym (ap read_number e) ∙ p.number

    pub reach_refused : ReachCallIs a b k
    reach_refused = record { unread = λ _. fault_first; answered = λ z. absurd (unread e (p.number ∙ z)) }

    pub plan_refused : {came out : List ℕ} {r : ℕ} → RefusedCall k came out r → PlanCallIs a b came r out
    plan_refused q = record { unread = λ _. (q.number ∙ fault_first, q.bytes); answered = λ z. absurd (unread e (p.number ∙ z)) }

  -- both images are read: what holds of the two stores holds of those that the images stand for
  module _ (e : read_number o.answer ≡ 0) where
    carried : (P : Store → Store → Type 0) → P o.start o.goal → P (store_in a) (store_in b)
    carried P = let q = both_read p e in subst₂ P q.0 q.1

    pub reach_answered : (v : Result Bool PairFault) {r : ℕ} → ReachSays o.start o.goal v → r ≡ reach_number v → ReachCallIs a b r
    reach_answered v {r} q g = record {
      unread = λ n. absurd (n (sym p.number ∙ e));
      answered = λ _. carried (λ (s t : Store). ReachGives s t r) (record { answer = v; says = q; number = g });
    }

    pub plan_answered : {came out : List ℕ} {v : Result ℕ PlanFault} {k n r : ℕ} → PlanIs o.start o.goal came out v → k ≡ result_unwrap_or v 0 → n ≡ plan_number v
        → r ≡ answer_of k n → PlanCallIs a b came r out
    plan_answered {came} {out} {v} {k} {n} {r} q f g h = record {
      unread = λ n. absurd (n (sym p.number ∙ e));
      answered = λ _. carried (λ (s t : Store). PlanGives s t came out r) (record { planned = v; is = q; number = h ∙ ap₂ answer_of f g });
    }
