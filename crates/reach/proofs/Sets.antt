-- Which numbers two stores can be refused with, and that none of them applies exactly if they are comparable.
use borrow.Author.Tests.{eq-eqb, ne_eqb, eqb-true}
use mathlib.Core.Bool.{Bool, true, false, not, ◌&&◌}
use mathlib.Core.List.{List, [], ◌∷◌}
use mathlib.Core.Path.{◌≡◌, refl, sym, ap, subst}
use Prim.Native.Nat.{ℕ, ◌<◌}
use native.Mathlib.Decide.{ℕ_discrete, dec_lt}
use native.Mathlib.Omega.{arith}
use lib.Dec.{eqb}
use Rattle.stacks.specs.Count.{count, one}
use Rattle.stacks.proofs.Deciding.{true_false}
use Rattle.marks.specs.Cassettes.{given}
use Rattle.marks.proofs.Faulted.{first_none, first_either, given_either, not_given, both_true}
use Rattle.store.specs.declared.Store.{Store}
use Rattle.store.specs.Slots.{SameFrame, cassettes}
use Rattle.store.specs.Accept.{store_fault}
use Rattle.reach.specs.Pairs.{same_list, agree_on, same_frame, frame_fault, cassettes_fault, pair_fault, SameCassettes, Comparable}

-- equality of lists, by its test
pub same_list_lem : (l r : List ℕ) → same_list l r ≡ true → l ≡ r
unfolding same_list
same_list_lem [] [] e = refl
same_list_lem [] (y ∷ r) e = absurd (true_false (sym e))
same_list_lem (x ∷ l) [] e = absurd (true_false (sym e))
same_list_lem (x ∷ l) (y ∷ r) e = let p = both_true (eqb x y) (same_list l r) e in cc (eqb-true x y p.0, same_list_lem l r p.1)

pub list_same : (l : List ℕ) → same_list l l ≡ true
unfolding same_list
list_same [] = refl
list_same (x ∷ l) = simp (eq-eqb x x refl, list_same l)

pub list_equal : (l r : List ℕ) → l ≡ r → same_list l r ≡ true
list_equal l r e = subst (λ (k : List ℕ). same_list l k ≡ true) e (list_same l)

agree_true : (r k l : List ℕ) → agree_on r k l ≡ true → (c : ℕ) → 0 < count c r → count c k ≡ count c l
unfolding agree_on count
agree_true [] k l e c h = absurd (omega arith)
agree_true (x ∷ r) k l e c h =
    let p = both_true (eqb (count x k) (count x l)) (agree_on r k l) e in
    elim (ℕ_discrete c x) [
      | yes q ↦ rw q (eqb-true (count x k) (count x l) p.0)
      | no q ↦ agree_true r k l p.1 c (omega (arith, ap one (ne_eqb c x q)))
    ]

agree_on_lem : (r k l : List ℕ) → ((c : ℕ) → count c k ≡ count c l) → agree_on r k l ≡ true
unfolding agree_on
agree_on_lem [] k l h = refl
agree_on_lem (x ∷ r) k l h = simp (eq-eqb (count x k) (count x l) (h x), agree_on_lem r k l h)

-- number 9 applies exactly if not every number stands as often in the one store as in the other
pub same_cassettes : (s t : Store) → SameCassettes s t → cassettes_fault s t ≡ 0
unfolding cassettes_fault
same_cassettes s t h = rw (agree_on_lem (cassettes s) (cassettes s) (cassettes t) h, agree_on_lem (cassettes t) (cassettes s) (cassettes t) h)

pub cassettes_same : (s t : Store) → cassettes_fault s t ≡ 0 → SameCassettes s t
unfolding cassettes_fault
cassettes_same s t e c =
    let k = cassettes s in
    let l = cassettes t in
    let w = both_true (agree_on k k l) (agree_on l k l) (not_given _ 8 e) in
    elim (dec_lt 0 (count c k)) [
      | yes h ↦ agree_true k k l w.0 c h
      | no h ↦ elim (dec_lt 0 (count c l)) [ yes g ↦ agree_true l k l w.1 c g | no g ↦ omega arith ]
    ]

pub other_cassettes : (s t : Store) → (SameCassettes s t → ⊥) → cassettes_fault s t ≡ 9
unfolding cassettes_fault
other_cassettes s t n =
    go (agree_on (cassettes s) (cassettes s) (cassettes t) && agree_on (cassettes t) (cassettes s) (cassettes t)) (λ e. n (cassettes_same s t e))
  where
    go : (b : Bool) → (given (not b) 9 ≡ 0 → ⊥) → given (not b) 9 ≡ 9
    go true n = absurd (n refl)
    go false n = refl

-- one frame, by its test
pub frame_same : (s t : Store) → SameFrame s t → same_frame s t ≡ true
unfolding same_frame
frame_same s t f = simp (eq-eqb s.m t.m f.shafts, list_equal s.depths t.depths f.depths)

pub same_frame_lem : (s t : Store) → same_frame s t ≡ true → SameFrame s t
unfolding same_frame
same_frame_lem s t e =
    let p = both_true (eqb s.m t.m) (same_list s.depths t.depths) e in
    record { shafts = eqb-true s.m t.m p.0; depths = same_list_lem s.depths t.depths p.1 }

-- number 8 applies exactly if two stores have not one frame
pub frames_agree : (s t : Store) → SameFrame s t → frame_fault s t ≡ 0
frames_agree s t f = simp (frame_same s t f)

pub agreed_frames : (s t : Store) → frame_fault s t ≡ 0 → SameFrame s t
agreed_frames s t e = same_frame_lem s t (not_given _ 7 e)

-- the numbers that two stores can be refused with are those of a store, 8 and 9
pub pair_either : (P : ℕ → Type 0) → P 0 → P 8 → P 9 → ((s : Store) → P (store_fault s)) → (s t : Store) → P (pair_fault s t)
unfolding pair_fault cassettes_fault
pair_either P none eight nine store s t =
    let k = cassettes s in
    let l = cassettes t in
    first_either P _ _ (store s)
    (first_either P _ _ (store t)
    (first_either P _ _ (given_either P (not (same_frame s t)) 8 none eight) (given_either P (not (agree_on k k l && agree_on l k l)) 9 none nine)))

-- none of the numbers of two stores applies exactly if they are comparable
pub comparable : (s t : Store) → pair_fault s t ≡ 0 → Comparable s t
unfolding pair_fault
comparable s t e =
    let a = first_none (store_fault s) _ e in
    let b = first_none (store_fault t) _ a.1 in
    let c = first_none (frame_fault s t) (cassettes_fault s t) b.1 in
    record { start = a.0; goal = b.0; frame = agreed_frames s t c.0; cassettes = cassettes_same s t c.1 }

pub comparable_faultless : (s t : Store) → Comparable s t → pair_fault s t ≡ 0
unfolding pair_fault
comparable_faultless s t p =
    simp (p.start, p.goal, frames_agree s t p.frame, same_cassettes s t p.cassettes)
