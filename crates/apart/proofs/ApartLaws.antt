-- A shaft that is the same in two stores, and a set of shafts that can be brought to the goal within itself, by what was found.
use mathlib.Core.Bool.{Bool}
use mathlib.Core.List.{[], reverse, reverse-reverse}
use mathlib.Core.Path.{◌≡◌, sym, ap, ◌∙◌, subst, subst₂}
use Prim.Native.Nat.{ℕ}
use native.Mathlib.Omega.{arith}
use lib.ListN.{length}
use Rattle.stacks.specs.Deciding.{Decides}
use Rattle.stacks.proofs.Deciding.{decides_as}
use Rattle.rows.specs.Rows.{rows_up, rows_down}
use Rattle.store.specs.declared.Store.{Store}
use Rattle.store.specs.Lists.{Leads, ended, Reachable}
use Rattle.store.specs.Slots.{height, stack}
use Rattle.store.proofs.Rows.{stack_length}
use Rattle.reach.specs.Pairs.{Comparable}
use Rattle.reach.proofs.Agree.{upward_reversed}
use Rattle.pairs.specs.declared.PairFault.{PairFault}
use Rattle.pairs.specs.Promises.{Faulty}
use Rattle.pairs.proofs.PairExact.{not_both}
use Rattle.parts.specs.Parts.{part}
use Rattle.within.proofs.Parted.{part_comparable, none_same, part_cassettes}

module _ (s t : Store) (x : ℕ) where
  pub heights_differ : (height s x ≡ height t x → ⊥) → stack s x ≡ stack t x → ⊥
  heights_differ n e = n (sym (stack_length s x) ∙ ap length e ∙ stack_length t x)

  -- shafts of one height are the same exactly if their rows are
  pub rows_decide : {r : Bool} → height s x ≡ height t x → Decides r (rows_up s.slots x (height s x) ≡ rows_up t.slots x (height s x)) → Decides r (stack s x ≡ stack t x)
  unfolding stack
  rows_decide e =
      let down : (u : Store) → reverse (rows_up u.slots x (height s x)) ≡ rows_down u.slots x (height s x)
      = λ u. ap reverse (upward_reversed u x (height s x)) ∙ reverse-reverse (rows_down u.slots x (height s x)) in
      let same : rows_down t.slots x (height s x) ≡ rows_down t.slots x (height t x) = ap (rows_down t.slots x) e in
      decides_as
      (λ f. sym (down s) ∙ ap reverse f ∙ down t ∙ same)
      (λ f. upward_reversed s x (height s x) ∙ ap reverse (f ∙ sym same) ∙ sym (upward_reversed t x (height s x)))

module _ (some : ℕ) (s t : Store) (p : Comparable s t) where
  pub part_none : (part some s).m ≡ 0 → Reachable (part some s) (part some t)
  part_none z = record { lifts = []; leads = subst (Leads (part some s) []) (none_same some s t p z) ended }

  -- parts that can't be compared can't be reached
  part_faulty : ((part some s).m ≡ 0 → ⊥) → (f : PairFault) → Faulty (part some s) (part some t) f → Reachable (part some s) (part some t) → ⊥
  part_faulty n f e r =
      not_both (part some s) (part some t) f e (part_comparable some s t p (omega arith) (part_cassettes some s t p r))

  pub part_refused : {u v : Store} (f : PairFault) → u ≡ part some s → v ≡ part some t → (u.m ≡ 0 → ⊥) → Faulty u v f → Reachable (part some s) (part some t) → ⊥
  part_refused {u} {v} f a b n e =
      part_faulty (λ z. n (ap (λ (w : Store). w.m) a ∙ z)) f (subst₂ (λ (w z : Store). Faulty w z f) a b e)
