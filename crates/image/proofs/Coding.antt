-- Cassettes as fields, for every width (document 02, 8/13: "Shared facts on packed numbers are shown for any width"): a number that has a value of w bits stands for
-- itself after it is coded and read, and every value of w bits after it is read and coded.
use borrow.Author.Tests.{eq-eqb, ne_eqb, ltb-true, lt-ltb}
use mathlib.Core.Bool.{Bool, true, false, ◌||◌}
use mathlib.Core.List.{List, ◌++◌, map}
use mathlib.Core.Path.{◌≡◌, refl, sym, ap, ◌∙◌}
use Prim.Native.Nat.{ℕ, ◌*◌, ◌^◌, ◌≤◌, ◌<◌}
use borrow.Table.Elements.{map_app}
use native.Mathlib.Decide.{ℕ_discrete}
use native.Mathlib.Omega.{arith}
use lib.Dec.{ltb}
use lib.ListN.{length, length-map}
use lib.Pow.{pow_pos, pow-lt}
use Rattle.bits.specs.Fields.{packed}
use Rattle.bits.proofs.Widths.{length_packed, packed_append}
use Rattle.marks.specs.Cassettes.{numbers, blank, is_blank}
use Rattle.marks.proofs.Others.{blank_is, only_blank, no_other_blank}
use Rattle.image.specs.Coding.{blank_value, meant, coded, codable, cassette_bits}

either : (b : Bool) → (b || true) ≡ true
either true = refl
either false = refl

module _ (w : ℕ) where
  -- a number is the blank, or below the value that stands for it
  by_number : (c : ℕ) (P : Type 0) → codable w c ≡ true → (is_blank c ≡ true → P) → (is_blank c ≡ false → c < blank_value w → P) → P
  unfolding codable
  by_number c P e one other = go (is_blank c) refl e
    where
      go : (b : Bool) → is_blank c ≡ b → (b || ltb c (blank_value w)) ≡ true → P
      go true i q = one i
      go false i q = other i (ltb-true c (blank_value w) q)

  pub meant_coded : (c : ℕ) → codable w c ≡ true → meant w (coded w c) ≡ c
  unfolding meant coded
  meant_coded c e =
      by_number c _ e (λ i. rw i (simp (eq-eqb (blank_value w) (blank_value w) refl) (sym (only_blank c i))))
      (λ i h. rw i (simp (ne_eqb c (blank_value w) (omega arith))))

  pub coded_lt : (c : ℕ) → codable w c ≡ true → coded w c < 2 ^ w
  unfolding coded
  coded_lt c e = by_number c _ e (λ i. rw i (omega (arith, pow_pos w))) (λ i h. rw i (omega arith))

  -- a value of w bits, where these have no number that no slot may show
  module _ (v : ℕ) (small : v < 2 ^ w) where
    pub coded_meant : 2 ^ w ≤ numbers → coded w (meant w v) ≡ v
    unfolding meant coded
    coded_meant narrow =
        elim (ℕ_discrete v (blank_value w)) [
          | yes q ↦ rw (eq-eqb v (blank_value w) q, blank_is) (sym q)
          | no n ↦ rw (ne_eqb v (blank_value w) n, no_other_blank v (omega arith)) refl
        ]

    pub meant_codable : codable w (meant w v) ≡ true
    unfolding meant codable
    meant_codable =
        elim (ℕ_discrete v (blank_value w)) [
          | yes q ↦ simp (eq-eqb v (blank_value w) q, blank_is)
          | no n ↦ simp (ne_eqb v (blank_value w) n, lt-ltb v (blank_value w) (omega arith)) (either (is_blank v))
        ]

  pub codable_number : (c : ℕ) → 2 ^ w ≤ numbers → codable w c ≡ true → c < numbers
  codable_number c narrow e = by_number c _ e (λ i. omega (arith, only_blank c i)) (λ i h. omega arith)

  pub below_codable : (c : ℕ) → c < blank_value w → codable w c ≡ true
  unfolding codable
  below_codable c h = simp (lt-ltb c (blank_value w) h) (either (is_blank c))

  pub blank_codable : codable w blank ≡ true
  unfolding codable
  blank_codable = simp blank_is

  -- a number with a value that is not the blank's
  pub codable_below : (c : ℕ) → codable w c ≡ true → (c ≡ blank → ⊥) → c < blank_value w
  codable_below c e n = by_number c _ e (λ i. absurd (n (only_blank c i))) (λ i h. h)

  pub zero_codable : 0 < w → codable w 0 ≡ true
  zero_codable h = below_codable 0 (omega (arith, pow-lt {i = 0} {j = w} h))

  -- cassettes one after the other
  pub length_cassettes : (l : List ℕ) → length (cassette_bits w l) ≡ length l * w
  length_cassettes l = length_packed w (map (coded w) l) ∙ ap (λ (n : ℕ). n * w) (length-map l (coded w))

  pub cassettes_append : (l r : List ℕ) → cassette_bits w (l ++ r) ≡ cassette_bits w l ++ cassette_bits w r
  cassettes_append l r = ap (packed w) (map_app (coded w) l r) ∙ packed_append w (map (coded w) l) (map (coded w) r)
