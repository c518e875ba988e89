-- The forms (document 02, 7/13 and 8/13): how wide a cassette is in each, and which stores each can hold.
use borrow.Author.Tests.{eqb-true, eq-eqb, ltb-false, lt-ltb, le-ltb}
use mathlib.Core.Bool.{Bool, true, false, cond, ◌&&◌, ◌||◌}
use mathlib.Core.Path.{◌≡◌, refl, ap}
use Prim.Native.Nat.{ℕ, suc, ◌^◌, ◌≤◌, ◌<◌}
use native.Mathlib.Decide.{ℕ_discrete, dec_lt}
use native.Mathlib.Omega.{arith}
use lib.Dec.{ltb, eqb}
use lib.ListN.{get_or, get_or-eq_default}
use Rattle.stacks.specs.Deciding.{Decides}
use Rattle.stacks.proofs.Deciding.{true_false, decides_by, decides_as, says_so}
use Rattle.marks.specs.Cassettes.{numbers, blank}
use Rattle.marks.proofs.Faulted.{both_true}
use Rattle.lifts.specs.Lifting.{slot_count, shown}
use Rattle.in_place.specs.InPlace.{all_below}
use Rattle.in_place.proofs.AllBelow.{all_true, all_of}
use Rattle.store.specs.declared.Store.{Store}
use Rattle.store.specs.Slots.{depth, slot}
use Rattle.store.specs.Accept.{Accepted}
use Rattle.store.specs.Sound.{Shaped}
use Rattle.store.proofs.Acceptance.{accepted_shaped}
use Rattle.store.proofs.Rows.{row_each}
use Rattle.image.specs.Coding.{codable}
use Rattle.image.specs.Writing.{Holdable}
use Rattle.image.proofs.Coding.{below_codable, blank_codable, codable_below}
use Rattle.image.specs.Image.{last_form, own_depths, byte_width, wide_width, cassette_width, EqualDepths, equal_depths, all_codable, holds}

-- what holds of both widths holds of a cassette's field in every form
by_width : (P : ℕ → Type 0) → P byte_width → P wide_width → (f : ℕ) → P (cassette_width f)
unfolding cassette_width
by_width P narrow wide f = go (ltb 1 f)
  where
    go : (b : Bool) → P (cond b wide_width byte_width)
    go true = wide
    go false = narrow

pub width_some : (f : ℕ) → 0 < cassette_width f
width_some = by_width (λ w. 0 < w) (omega arith) (omega arith)

pub width_most : (f : ℕ) → cassette_width f ≤ wide_width
width_most = by_width (λ w. w ≤ wide_width) (omega arith) (omega arith)

-- no field has a value past the numbers that a slot may show
pub width_narrow : (f : ℕ) → 2 ^ cassette_width f ≤ numbers
width_narrow = by_width (λ w. 2 ^ w ≤ numbers) (omega arith) (omega arith)

pub depths_test : (s : Store) → Decides (equal_depths s) (EqualDepths s)
unfolding equal_depths
depths_test s =
    decides_by (all_below s.m (λ x. eqb (depth s x) (depth s 0)))
    (λ e x h. eqb-true (depth s x) (depth s 0) (all_true s.m (λ x. eqb (depth s x) (depth s 0)) e x h))
    (λ p. all_of s.m (λ x. eqb (depth s x) (depth s 0)) (λ x h. eq-eqb (depth s x) (depth s 0) (p x h)))

-- Form f holds the store: where it has one depth for all shafts they are equal, and each number has a value of its width.
pub record Holds (f : ℕ) (s : Store) : Type 0 where
  pub equal : own_depths f ≡ false → EqualDepths s
  pub numbered : (i : ℕ) → i < slot_count → codable (cassette_width f) (get_or s.slots i 0) ≡ true

module _ (f : ℕ) (s : Store) where
  either : (a b : Bool) → (a || b) ≡ true → a ≡ false → b ≡ true
  either true b e z = absurd (true_false z)
  either false b e z = e

  both : (a b c : Bool) → (a ≡ false → b ≡ true) → c ≡ true → ((a || b) && c) ≡ true
  both true b c h e = e
  both false b c h e = simp (h refl, e)

  pub holds_test : Decides (holds f s) (Holds f s)
  unfolding holds all_codable
  holds_test =
      let p : ℕ → Bool = λ i. codable (cassette_width f) (get_or s.slots i 0) in
      decides_by _
      (λ e.
      let q = both_true _ _ e in
      record { equal = λ z. (depths_test s).so (either _ _ q.0 z); numbered = all_true slot_count p q.1 })
      (λ h. both _ _ _ (λ z. says_so (equal_depths s) (depths_test s) (h.equal z)) (all_of slot_count p h.numbered))

-- "18, a store to be written holds a cassette from 255 to 4,094 in form 0 or 1, or unequal depths in form 0": of an accepted store, exactly
pub eighteen : (f : ℕ) (s : Store) → Accepted s → Decides (holds f s) (Holdable f s)
unfolding shown cassette_width
eighteen f s e =
    decides_as
    (λ h. record {
      depths = λ z. h.equal (le-ltb 0 f (omega arith));
      numbers = λ low x y a b. row_each (λ c. 255 ≤ c → c ≤ 4094 → ⊥) s.slots x y (λ i j. omega arith) (λ i u v. narrow low (h.numbered i (inside i u)) u v) a b;
    })
    (λ h. record {
      equal = λ z. h.depths (omega (arith, ltb-false 0 f z));
      numbered = λ i b. held i h;
    })
    (holds_test f s)
  where
    p : Shaped s
    p = accepted_shaped s e

    -- past the arrays there is nothing
    inside : (i : ℕ) → 255 ≤ get_or s.slots i 0 → i < slot_count
    inside i u = elim (dec_lt i slot_count) [ yes b ↦ b | no b ↦ (let z : get_or s.slots i 0 ≡ 0 = get_or-eq_default s.slots 0 (omega (arith, p.slots_sized)) in absurd (omega arith)) ]

    -- in forms 0 and 1 a number with a value is below 255 or the blank
    narrow : f ≤ 1 → {c : ℕ} → codable (cassette_width f) c ≡ true → 255 ≤ c → c ≤ 4094 → ⊥
    narrow low {c} h u v = absurd (omega (arith, codable_below byte_width c (rw (le-ltb 1 f low) at h) (λ z. omega arith)))

    here : (i : ℕ) → slot s 0 (suc i) ≡ get_or s.slots i 0
    here i = ap (λ (j : ℕ). get_or s.slots j 0) (omega arith)

    held : (i : ℕ) → Holdable f s → codable (cassette_width f) (get_or s.slots i 0) ≡ true
    held i h =
        let c = get_or s.slots i 0 in
        elim (ℕ_discrete c blank) [
          | yes q ↦ rw q (blank_codable (cassette_width f))
          | no n ↦ elim (dec_lt 1 f) [
            | yes wide ↦ rw (lt-ltb 1 f wide) (below_codable wide_width c (omega (arith, p.numbered i)))
            | no low ↦ rw (le-ltb 1 f (omega arith)) (elim (dec_lt c 255) [
              | yes b ↦ below_codable byte_width c (omega arith)
              | no b ↦ absurd (h.numbers (omega arith) 0 (suc i) (omega (arith, here i)) (omega (arith, here i, p.numbered i)))
            ])
          ]
        ]

-- so 1 and 18 never both apply, and it does not matter which is tested first
pub never_both : (f : ℕ) (s : Store) → Accepted s → last_form < f → holds f s ≡ true
never_both f s e h = says_so (holds f s) (eighteen f s e) (record { depths = λ z. absurd (omega arith); numbers = λ z. absurd (omega arith) })
