-- What the numbers of the calls say, back from the answer to the fact: for images that are read and stores that can be compared the yes or no gives 0
-- exactly if the goal can be reached and 15 exactly if not; so does a plan, but for 10 where the goal can be reached and less than the list space is lent.
-- A plan of number 0 has its list in the first bytes, any other has written nothing, and the numbers of two plans of the same images differ by the length lent alone.
use mathlib.Core.List.{List}
use mathlib.Core.Logic.{◌⊎◌, inl, inr, ⊎_elim}
use mathlib.Core.Path.{◌≡◌, sym, ap, ◌∙◌, subst}
use Prim.Native.Nat.{ℕ, ◌/◌, ◌%◌, ◌^◌, ◌≤◌, ◌<◌}
use native.Mathlib.Decide.{ℕ_discrete}
use native.Mathlib.Nat.{mod-eq_of_lt}
use native.Mathlib.Omega.{arith}
use lib.ListN.{length}
use Rattle.std.specs.Prelude.{Result, Ok, Err}
use Rattle.std.specs.Result.{result_unwrap_or}
use Rattle.store.specs.Lists.{Reachable}
use Rattle.store.specs.Slots.{list_space}
use Rattle.store.proofs.Space.{list_space_most}
use Rattle.reach.specs.Pairs.{Comparable}
use Rattle.reachable.specs.Numbers.{reach_number}
use Rattle.reachable.specs.Promises.{ReachSays}
use Rattle.reachable.proofs.Exact.{one_reach, yes_exactly, no_exactly, zero_is_yes, fifteen_is_no}
use Rattle.plans.specs.declared.PlanFault.{PlanFault}
use Rattle.plans.specs.Numbers.{plan_number, plan_fault}
use Rattle.plans.specs.Promises.{PlanSays, Lists}
use Rattle.plans.proofs.PlanExact.{plan_numbered, listed_count, listed_list, unlisted_untouched, zero_is_listed, ten_is_little, fifteen_is_unreachable, number_most}
use Rattle.marks.specs.Cassettes.{first}
use Rattle.marks.proofs.Faulted.{first_either, first_skips, first_stays}
use Rattle.image.specs.Numbers.{ReadingGives}
use Rattle.image.proofs.Numbers.{number_given}
use Rattle.calls.specs.Shared.{answer_of, store_in, read_fault, read_faults}
use Rattle.pair_calls.specs.PairCalls.{ReachCallIs, PlanGives, PlanCallIs}

-- no fault of reading is above 7
faults_few : (a b : List ℕ) → read_faults a b ≤ 7
faults_few a b =
    ⊎_elim (λ h. omega arith) (λ e. omega arith) (first_either ReadingGives (read_fault a) (read_fault b) (number_given a) (number_given b))

-- a number that is the fault of reading where there is one: if no fault has it, both images are read
read_by_number : (a b : List ℕ) {k : ℕ} → ((read_faults a b ≡ 0 → ⊥) → k ≡ read_faults a b) → (k ≡ 0) ⊎ (7 < k) → read_faults a b ≡ 0
read_by_number a b u w =
    elim (ℕ_discrete (read_faults a b) 0) [
      | yes z ↦ z
      | no n ↦ absurd (⊎_elim (λ e. n (sym (u n) ∙ e)) (λ h. omega (arith, u n, faults_few a b)) w)
    ]

module _ {a b : List ℕ} {r : ℕ} (p : ReachCallIs a b r) where
  pub call_yes : r ≡ 0 → Reachable (store_in a) (store_in b)
  call_yes e =
      let g = p.answered (read_by_number a b p.unread (inl e)) in
      (subst (ReachSays (store_in a) (store_in b)) (zero_is_yes g.answer (sym g.number ∙ e)) g.says).1

  pub call_no : r ≡ 15 → Reachable (store_in a) (store_in b) → ⊥
  call_no e =
      let g = p.answered (read_by_number a b p.unread (inr (omega arith))) in
      (subst (ReachSays (store_in a) (store_in b)) (fifteen_is_no g.answer (sym g.number ∙ e)) g.says).1

  module _ (z : read_faults a b ≡ 0) (c : Comparable (store_in a) (store_in b)) where
    pub yes_called : Reachable (store_in a) (store_in b) → r ≡ 0
    yes_called l = let g = p.answered z in g.number ∙ ap reach_number ((yes_exactly _ _ g.answer g.says c).0 l)

    pub no_called : (Reachable (store_in a) (store_in b) → ⊥) → r ≡ 15
    no_called n = let g = p.answered z in g.number ∙ ap reach_number ((no_exactly _ _ g.answer g.says c).0 n)

-- the yes or no of two images is one number
pub one_reach_call : {a b : List ℕ} {r q : ℕ} → ReachCallIs a b r → ReachCallIs a b q → r ≡ q
one_reach_call {a} {b} {r} {q} u v =
    elim (ℕ_discrete (read_faults a b) 0) [
      | yes z ↦ (let g = u.answered z in let h = v.answered z in
          g.number ∙ ap reach_number (one_reach _ _ g.answer h.answer g.says h.says) ∙ sym h.number)
      | no n ↦ u.unread n ∙ sym (v.unread n)
    ]

-- the number of an answer is its low byte, the count what stands above it
low_byte : (count number r : ℕ) → number < 256 → r ≡ answer_of count number → (r % 256 ≡ number) × (r / 256 ≡ count % 2 ^ 56)
low_byte count number r h e = (omega arith, omega arith)

module _ {a b came out : List ℕ} {r : ℕ} (p : PlanCallIs a b came r out) where
  fault_of : (read_faults a b ≡ 0 → ⊥) → r % 256 ≡ read_faults a b
  fault_of n = omega (arith, (p.unread n).0, faults_few a b)

  number_of : (g : PlanGives (store_in a) (store_in b) came out r)
      → (r % 256 ≡ plan_number g.planned) × (r / 256 ≡ result_unwrap_or g.planned 0 % 2 ^ 56)
  number_of g = low_byte (result_unwrap_or g.planned 0) _ r (omega (arith, number_most g.planned)) g.number

  -- the first r / 256 bytes are a list that leads from start to goal
  pub call_listed : r % 256 ≡ 0 → Lists (store_in a) (store_in b) came out (r / 256)
  call_listed e =
      let g = p.answered (read_by_number a b fault_of (inl e)) in
      let q = number_of g in
      let k = zero_is_listed g.planned (sym q.0 ∙ e) in
      let l = listed_list _ _ _ _ g.planned g.is k in
      let c = (subst (PlanSays (store_in a) (store_in b) came) (listed_count g.planned k) g.is.answer).0 in
      let few : result_unwrap_or g.planned 0 < 2 ^ 56 = omega (arith, l.count, l.short, list_space_most _ c.start) in
      subst (Lists (store_in a) (store_in b) came out) (sym (q.1 ∙ mod-eq_of_lt few)) l

  -- what 15 and 10 say
  fifteen_says : r % 256 ≡ 15 → (read_faults a b ≡ 0) × PlanSays (store_in a) (store_in b) came (Err PlanFault.Unreachable)
  fifteen_says e =
      let z = read_by_number a b fault_of (inr (omega arith)) in
      let g = p.answered z in
      (z, subst (PlanSays (store_in a) (store_in b) came) (fifteen_is_unreachable g.planned (sym (number_of g).0 ∙ e)) g.is.answer)

  ten_says : r % 256 ≡ 10 → (read_faults a b ≡ 0) × PlanSays (store_in a) (store_in b) came (Err PlanFault.LittleSpace)
  ten_says e =
      let z = read_by_number a b fault_of (inr (omega arith)) in
      let g = p.answered z in
      let k = ten_is_little _ _ came g.planned g.is.answer (sym (number_of g).0 ∙ e) in
      (z, subst (PlanSays (store_in a) (store_in b) came) k g.is.answer)

  -- no list exists
  pub call_unreachable : r % 256 ≡ 15 → Reachable (store_in a) (store_in b) → ⊥
  call_unreachable e = (fifteen_says e).1.1

  -- one exists, and too little was lent for it
  pub call_little : r % 256 ≡ 10 → Reachable (store_in a) (store_in b) × (length came < list_space (store_in a))
  call_little e = (ten_says e).1.1

  -- a number other than 0 counts no lift and leaves the lent bytes as they came
  pub call_untouched : (r % 256 ≡ 0 → ⊥) → (r / 256 ≡ 0) × (out ≡ came)
  call_untouched n =
      elim (ℕ_discrete (read_faults a b) 0) [
        | yes z ↦ (let g = p.answered z in
            let u = unlisted_untouched _ _ _ _ g.planned g.is (λ k. n ((number_of g).0 ∙ ap plan_number (listed_count g.planned k))) in
            (omega (arith, (number_of g).1, u.0), u.1))
        | no f ↦ (omega (arith, (p.unread f).0, faults_few a b), (p.unread f).1)
      ]

  -- the number of an answer that is right
  module _ (z : read_faults a b ≡ 0) where
    called : (v : Result ℕ PlanFault) → PlanSays (store_in a) (store_in b) came v → r % 256 ≡ plan_number v
    called v q = let g = p.answered z in (number_of g).0 ∙ plan_numbered _ _ came g.planned g.is.answer ∙ sym (plan_numbered _ _ came v q)

    module _ (c : Comparable (store_in a) (store_in b)) where
      pub unreachable_called : (Reachable (store_in a) (store_in b) → ⊥) → r % 256 ≡ 15
      unreachable_called n = called (Err PlanFault.Unreachable) (c, n)

      pub listed_called : Reachable (store_in a) (store_in b) → list_space (store_in a) ≤ length came → r % 256 ≡ 0
      listed_called l h = called (Ok 0) (c, (l, h))

      pub little_called : Reachable (store_in a) (store_in b) → length came < list_space (store_in a) → r % 256 ≡ 10
      little_called l h = called (Err PlanFault.LittleSpace) (c, (l, h))

  -- the number of a plan is the first that applies: of reading, then of the two stores and the length lent
  pub call_numbered : r % 256 ≡ first (read_faults a b) (plan_fault (store_in a) (store_in b) (length came))
  call_numbered =
      elim (ℕ_discrete (read_faults a b) 0) [
        | yes z ↦ (let g = p.answered z in
            (number_of g).0 ∙ plan_numbered _ _ came g.planned g.is.answer ∙ sym (first_skips _ _ z))
        | no n ↦ fault_of n ∙ sym (first_stays _ _ n)
      ]

-- two plans of the same images
module _ {a b came lent out written : List ℕ} {r q : ℕ} (u : PlanCallIs a b came r out) (v : PlanCallIs a b lent q written) where
  -- as much lent gives the same number
  pub one_plan_call : length came ≡ length lent → r % 256 ≡ q % 256
  one_plan_call e = call_numbered u ∙ rw e (sym (call_numbered v))

  -- 15 is given whatever is lent, and enough space cures 10
  pub fifteen_stays : r % 256 ≡ 15 → q % 256 ≡ 15
  fifteen_stays e = let w = fifteen_says u e in called v w.0 (Err PlanFault.Unreachable) w.1

  pub space_cures : r % 256 ≡ 10 → list_space (store_in a) ≤ length lent → q % 256 ≡ 0
  space_cures e h = let w = ten_says u e in called v w.0 (Ok 0) (w.1.0, (w.1.1.0, h))
