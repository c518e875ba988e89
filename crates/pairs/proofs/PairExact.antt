-- The promise on two stores is exact: no two values of the answer are right at once, and the right one has document 01's number.
use mathlib.Core.Bool.{cond}
use mathlib.Core.Path.{◌≡◌, refl, sym, ap, ◌∙◌}
use Prim.Native.Nat.{ℕ, ◌<◌}
use native.Mathlib.Omega.{arith}
use lib.Dec.{eqb}
use Rattle.marks.proofs.Faulted.{first_stays}
use Rattle.store.specs.declared.Store.{Store}
use Rattle.store.specs.declared.Fault.{Fault}
use Rattle.store.specs.Accept.{store_fault}
use Rattle.store.specs.Slots.{cassette_count}
use Rattle.store.specs.Numbers.{fault_number}
use Rattle.store.proofs.Checks.{fault_one, fault_most}
use Rattle.store.proofs.Numbered.{told, told_none, told_store}
use Rattle.reach.specs.Pairs.{frame_fault, cassettes_fault, pair_fault, Comparable}
use Rattle.reach.proofs.Sets.{same_cassettes, frames_agree, comparable_faultless}
use Rattle.pairs.specs.declared.PairFault.{PairFault}
use Rattle.pairs.specs.Numbers.{pair_fault_number, pair_number}
use Rattle.pairs.specs.Promises.{Faulty, PairSays}
use Rattle.std.specs.Prelude.{Result, Ok, Err}

store_number : (f : Fault) → (0 < fault_number f) × (fault_number f < 15)
store_number f = let n = fault_one f in (omega arith, omega (arith, fault_most f))

-- the numbers of the faults are neither 0 nor 15
pub fault_numbers : (f : PairFault) → (0 < pair_fault_number f) × (pair_fault_number f < 15)
fault_numbers (PairFault.StartRefused f) = store_number f
fault_numbers (PairFault.GoalRefused f) = store_number f
fault_numbers PairFault.Frames = (omega arith, omega arith)
fault_numbers PairFault.Cassettes = (omega arith, omega arith)

module _ (s t : Store) where
  -- what the faults of the stores leave to say
  frames_told : Result ℕ PairFault
  frames_told = cond (eqb (frame_fault s t) 0) (cond (eqb (cassettes_fault s t) 0) (Ok (cassette_count s)) (Err PairFault.Cassettes)) (Err PairFault.Frames)

  goal_told : ℕ → Result ℕ PairFault
  goal_told = told frames_told (λ f. Err (PairFault.GoalRefused f)) (λ r. frames_told)

  start_told : ℕ → Result ℕ PairFault
  start_told = told (goal_told (store_fault t)) (λ f. Err (PairFault.StartRefused f)) (λ r. frames_told)

  accepted_told : store_fault s ≡ 0 → store_fault t ≡ 0 → start_told (store_fault s) ≡ frames_told
  unfolding start_told goal_told
  accepted_told a b = ap start_told a ∙ told_none _ _ _ ∙ ap goal_told b ∙ told_none _ _ _

  -- the answer that the definitions of the faults tell
  pub pair_told : Result ℕ PairFault
  pair_told = start_told (store_fault s)

  pub pair_told_lem : (p : Result ℕ PairFault) → PairSays s t p → pair_told ≡ p
  unfolding start_told goal_told frames_told pair_told
  pair_told_lem (Ok n) (p, e) =
      accepted_told p.start p.goal ∙ simp (frames_agree s t p.frame, same_cassettes s t p.cassettes) (ap Ok (sym e))
  pair_told_lem (Err (PairFault.StartRefused f)) e = ap start_told e ∙ told_store _ _ _ f
  pair_told_lem (Err (PairFault.GoalRefused f)) e = ap start_told e.0 ∙ told_none _ _ _ ∙ ap goal_told e.1 ∙ told_store _ _ _ f
  pair_told_lem (Err PairFault.Frames) e = accepted_told e.0.0 e.0.1 ∙ simp e.1
  pair_told_lem (Err PairFault.Cassettes) e = accepted_told e.0.0 e.0.1 ∙ simp (e.1.0, e.1.1)

  pub one_pair : (p q : Result ℕ PairFault) → PairSays s t p → PairSays s t q → p ≡ q
  one_pair p q a b = sym (pair_told_lem p a) ∙ pair_told_lem q b

  -- stores with a fault can't be compared
  pub not_both : (f : PairFault) → Faulty s t f → Comparable s t → ⊥
  not_both f a b = omega (arith, fault_numbers f, ap pair_number (one_pair (Err f) (Ok (cassette_count s)) a (b, refl)))

  -- the number follows from the value
  pub pair_numbered : (p : Result ℕ PairFault) → PairSays s t p → pair_number p ≡ pair_fault s t
  unfolding pair_fault
  pair_numbered (Ok n) p = sym (comparable_faultless s t p.0)
  pair_numbered (Err (PairFault.StartRefused f)) e = sym (first_stays (store_fault s) _ (λ z. fault_one f (sym e ∙ z)) ∙ e)
  pair_numbered (Err (PairFault.GoalRefused f)) e =
      sym (simp e.0 (first_stays (store_fault t) _ (λ z. fault_one f (sym e.1 ∙ z)) ∙ e.1))
  pair_numbered (Err PairFault.Frames) e = simp (e.0.0, e.0.1, e.1)
  pair_numbered (Err PairFault.Cassettes) e = simp (e.0.0, e.0.1, e.1.0, e.1.1)
