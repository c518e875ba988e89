-- The laws of direct placement, lift by lift. The list maker and the theorem that a list exists rest on them both.
use mathlib.Core.Path.{◌≡◌, refl, sym, ap, ◌∙◌}
use mathlib.Core.Logic.{◌≢◌, Ne-symm}
use mathlib.Core.List.{List, ◌∷◌}
use mathlib.Core.Bool.{cond}
use Prim.Native.Nat.{ℕ, suc, ◌+◌, ◌*◌, ◌-◌, ◌≤◌, ◌<◌}
use native.Mathlib.Omega.{arith}
use borrow.Author.Tests.{le-leb, lt-leb, eq-eqb, ne_eqb}
use native.Mathlib.Decide.{dec_le}
use lib.Dec.{eqb}
use lib.ListN.{length}
use Rattle.stacks.specs.Run.{Stacks, Usable, Step, done, step}
use Rattle.stacks.specs.Count.{total}
use Rattle.stacks.specs.Moves.{lift}
use Rattle.stacks.specs.Placing.{Onto, Passed, Over, Placing, lifts_left, Spare, all, some, Next, uncover, clear, across, away, heights_of}
use Rattle.stacks.proofs.Bottoms.{onto_same, onto_length, onto_all, step_onto}
use Rattle.stacks.proofs.Runs.{step_within}
use Rattle.stacks.proofs.Sums.{sum_le_outside_two, sum_differ_one, everywhere}
use Rattle.stacks.proofs.Kept.{total_kept}

-- How many lifts are left, where all in the way has room and where it has not.
module _ (k l r : ℕ) where
  pub left_plain : k + l ≤ r → lifts_left k l r ≡ k + l + 1
  unfolding lifts_left
  left_plain h = rw (le-leb (k + l) r h)

  pub left_pass : r < k + l → lifts_left k l r ≡ 2 * k + l + 2
  unfolding lifts_left
  left_pass h = rw (lt-leb (k + l) r h)

  pub left_most : lifts_left k l r ≤ 2 * k + l + 2
  left_most = elim (dec_le (k + l) r) [ yes h ↦ omega (arith, left_plain h) | no h ↦ omega (arith, left_pass (omega arith)) ]

-- A lift changes two heights.
module _ {m : ℕ} {d : ℕ → ℕ} {x y : ℕ} {S T : Stacks} (s : Step m d (lift x y) S T) where
  pub left_lower : length (S x) ≡ suc (length (T x))
  left_lower = ap length s.taken

  pub entered_higher : length (T y) ≡ suc (length (S y))
  entered_higher = ap length s.placed

  pub others_same : (i : ℕ) → i ≢ x → i ≢ y → length (T i) ≡ length (S i)
  others_same i n e = ap length (s.kept i n e)

-- What is passed stays, if no lift takes it.
pub passed_step : {m : ℕ} {d : ℕ → ℕ} {e x y : ℕ} {P S T : Stacks} → Passed m d e P S → Step m d (lift x y) S T → length (P x) < length (S x) → Passed m d e P T
passed_step {P = P} {S} h s f = record {
  onto = λ i. step_onto s i (λ q. rw q f) (h.onto i);
  floor = h.floor;
  within = step_within s h.within;
  all = omega (arith, h.all, total_kept (step s done));
}

-- v stays where it stands, if it is not taken.
pub over_step : {m : ℕ} {d : ℕ → ℕ} {x y v a : ℕ} {p : List ℕ} {P S T : Stacks} → Over P S v a p → Step m d (lift x y) S T → (a ≡ x → suc (length p) < length (S a))
    → Over P T v a p
over_step {a = a} o s f = record { stands = step_onto s a f o.stands; unpassed = o.unpassed }

-- What is taken from a, where nothing stands on v, is v.
pub taken_is : {m : ℕ} {d : ℕ → ℕ} {y v a : ℕ} {p : List ℕ} {P S T : Stacks} → Over P S v a p → Step m d (lift a y) S T → length (S a) ≡ suc (length p) → T y ≡ v ∷ S y
taken_is {y = y} {v} {a} {p} {S = S} {T} o s e =
    let top : s.cassette ∷ T a ≡ v ∷ p = sym s.taken ∙ onto_all o.stands (omega arith) in
    let same : s.cassette ≡ v = cc (top) in
    rw (← same) s.placed

-- v lifted stands on top of the shaft entered.
pub over_lifted : {m : ℕ} {d : ℕ → ℕ} {e y v a : ℕ} {p : List ℕ} {P S T : Stacks} → Passed m d e P S → Over P S v a p → Step m d (lift a y) S T
    → length (S a) ≡ suc (length p) → Over P T v y (S y)
over_lifted {y = y} h o s e = record { stands = onto_same (taken_is o s e); unpassed = onto_length (h.onto y) }

-- The rooms of two shafts, and of three, are no more than the empty slots.
module _ {m : ℕ} {d : ℕ → ℕ} {e : ℕ} {P S : Stacks} (h : Passed m d e P S) where
  pub two_rooms : (a b : ℕ) → a ≢ b → Usable m a → Usable m b → d a + d b ≤ e + (length (S a) + length (S b))
  unfolding total
  two_rooms a b n p q =
      omega (arith, h.all, sum_le_outside_two m (λ i. length (S i)) d a b n p q (λ i u na nb. h.within i u))

  pub three_rooms : (a b c : ℕ) → a ≢ b → c ≢ a → c ≢ b → Usable m a → Usable m b → Usable m c
      → d a + d b + d c ≤ e + (length (S a) + length (S b)) + length (S c)
  unfolding total
  three_rooms a b c n na nb p q u =
      let full : ℕ → ℕ = λ i. cond (eqb i c) (d c) (length (S i)) in
      let at : full c ≡ d c = rw (eq-eqb c c refl) in
      let else : (i : ℕ) → i ≢ c → full i ≡ length (S i) = λ i z. rw (ne_eqb i c z) in
      omega (
        arith,
        h.all,
        at,
        else a (Ne-symm na),
        else b (Ne-symm nb),
        sum_differ_one m full (λ i. length (S i)) c u (λ i _ z. else i z),
        sum_le_outside_two m full d a b n p q (λ i w _ _. everywhere (λ i. Usable m i → full i ≤ d i) c (λ w. omega (arith, at)) (λ i z w. rw (else i z) (h.within i w)) i w),
      )

  -- if all other shafts are full, the rooms of two are all the empty slots
  pub full_outside : (a b : ℕ) → a ≢ b → Usable m a → Usable m b → ((c : ℕ) → Usable m c → c ≢ a → c ≢ b → d c ≤ length (S c))
      → e + (length (S a) + length (S b)) ≤ d a + d b
  unfolding total
  full_outside a b n p q f = omega (arith, h.all, sum_le_outside_two m d (λ i. length (S i)) a b n p q f)

-- After a lift v stands on p' in a': where it stood, or, if it was lifted, on top of the shaft entered; fewer lifts are left.
pub record Advanced (m : ℕ) (d : ℕ → ℕ) (e : ℕ) (P : Stacks) (b v : ℕ) (S T : Stacks) (a : ℕ) (p : List ℕ) (k l r x y : ℕ) : Type 0 where
  pub shaft : ℕ
  pub under : List ℕ
  pub cover : ℕ
  pub in_way : ℕ
  pub outside : ℕ
  pub placing : Placing m d e P b v T shaft under cover in_way outside
  pub fewer : lifts_left cover in_way outside < lifts_left k l r
  pub stayed : (x ≡ a → 0 < k) → (shaft ≡ a) × (under ≡ p)
  pub lifted : x ≡ a → k ≡ 0 → (shaft ≡ y) × (under ≡ S y)

-- the lifts left after one of them aside, and after one across
aside_left : (k l r k' l' r' : ℕ) → Spare k l r → k + l ≡ suc (k' + l') → k' ≤ k → l' ≤ l → r ≡ suc r' → lifts_left k' l' r' < lifts_left k l r
aside_left k l r k' l' r' s e f g h = elim (dec_le (k + l) r) [
  | yes z ↦ omega (arith, left_plain k l r z, left_plain k' l' r' (omega arith))
  | no z ↦ omega (arith, left_pass k l r (omega arith), left_pass k' l' r' (omega arith))
]

-- where one may be lifted aside, a slot is left for the rest
spare_way : {k l r : ℕ} (k' l' r' : ℕ) → Spare k l r → k + l ≡ suc (k' + l') → r ≡ suc r' → 0 < k' + l' → 0 < r'
spare_way k' l' r' (all z) e f g = omega arith
spare_way k' l' r' (some z) e f g = omega arith

module _ {m : ℕ} {d : ℕ → ℕ} {e : ℕ} {P : Stacks} {b v : ℕ} {S T : Stacks} {a : ℕ} {p : List ℕ} {k l r : ℕ} (h : Placing m d e P b v S a p k l r) where
  -- a lift that takes neither v nor what is passed
  stays : {x y : ℕ} → Step m d (lift x y) S T → length (P x) < length (S x) → (x ≡ a → 0 < k) → (k' l' r' : ℕ) → k' + suc (length p) ≡ length (T a)
      → l' + length (P b) ≡ length (T b) → r' + (d a + d b) ≡ e + (length (T a) + length (T b)) → (0 < k' + l' → 0 < r') → lifts_left k' l' r' < lifts_left k l r
      → Advanced m d e P b v S T a p k l r x y
  stays t f g k' l' r' ek el er w z = record {
    shaft = a;
    under = p;
    cover = k';
    in_way = l';
    outside = r';
    placing = record {
      passed = passed_step h.passed t f;
      over = over_step h.over t (λ q. omega (arith, g (sym q), h.covered));
      differ = h.differ;
      first = h.first;
      second = h.second;
      place = h.place;
      covered = ek;
      in_the_way = el;
      outside = er;
      way = w;
    };
    fewer = z;
    stayed = λ _. (refl, refl);
    lifted = λ q k₀. absurd (omega (arith, g q));
  }

  -- The law of a round: each lift that brings v nearer keeps what is passed.
  pub advance : {x y : ℕ} → Next m d a b k l r (heights_of S) x y → Step m d (lift x y) S T → Advanced m d e P b v S T a p k l r x y
  advance (uncover {c} k₁ s o) t =
      let r₁ : 0 < r = h.way (omega arith) in
      let same : length (T b) ≡ length (S b) = others_same t b (Ne-symm h.differ) (Ne-symm o.not_second) in
      stays t (omega (arith, h.over.unpassed, h.covered)) (λ _. k₁) (k - 1) l (r - 1) (omega (arith, h.covered, left_lower t)) (h.in_the_way ∙ sym same)
      (omega (arith, h.outside, left_lower t, same)) (spare_way (k - 1) l (r - 1) s (omega arith) (omega arith))
      (aside_left k l r (k - 1) l (r - 1) s (omega arith) (omega arith) (omega arith) (omega arith))
  advance (clear {c} k₀ l₁ s o) t =
      let r₁ : 0 < r = h.way (omega arith) in
      let same : length (T a) ≡ length (S a) = others_same t a h.differ (Ne-symm o.not_first) in
      stays t (omega (arith, h.in_the_way)) (λ q. absurd (h.differ (sym q))) k (l - 1) (r - 1) (h.covered ∙ sym same) (omega (arith, h.in_the_way, left_lower t))
      (omega (arith, h.outside, left_lower t, same)) (spare_way k (l - 1) (r - 1) s (omega arith) (omega arith))
      (aside_left k l r k (l - 1) (r - 1) s (omega arith) (omega arith) (omega arith) (omega arith))
  advance (across k₁ r₁ kl) t =
      stays t (omega (arith, h.over.unpassed, h.covered)) (λ _. k₁) (k - 1) (l + 1) r (omega (arith, h.covered, left_lower t))
      (omega (arith, h.in_the_way, entered_higher t)) (omega (arith, h.outside, left_lower t, entered_higher t)) (λ _. omega arith)
      (omega (arith, left_pass k l r (omega arith), left_pass (k - 1) (l + 1) r (omega arith)))
  advance (away {c} k₀ r₁ l₁ o) t =
      let same : length (T b) ≡ length (S b) = others_same t b (Ne-symm h.differ) (Ne-symm o.not_second) in
      let q = passed_step h.passed t (omega (arith, h.over.unpassed, h.covered)) in
      let R = e + (length (T c) + length (T b)) - (d c + d b) in
      let f = two_rooms q c b o.not_second o.usable h.second in
      let g = three_rooms h.passed a b c h.differ o.not_first o.not_second h.first h.second o.usable in
      let u : l ≤ R = omega (arith, h.passed.floor b h.second, h.in_the_way, h.outside, same, entered_higher t) in
      record {
        shaft = c;
        under = S c;
        cover = 0;
        in_way = l;
        outside = R;
        placing = record {
          passed = q;
          over = over_lifted h.passed h.over t (omega (arith, h.covered));
          differ = o.not_second;
          first = o.usable;
          second = h.second;
          place = h.place;
          covered = omega (arith, entered_higher t);
          in_the_way = h.in_the_way ∙ sym same;
          outside = omega arith;
          way = λ _. omega arith;
        };
        fewer = omega (arith, left_pass k l r (omega arith), left_plain 0 l R (omega arith));
        stayed = λ z. absurd (omega (arith, z refl));
        lifted = λ _ _. (refl, refl);
      }

  -- The last lift: v stands on what is passed of b, and that of every shaft stays.
  pub home : k ≡ 0 → l ≡ 0 → Step m d (lift a b) S T → Onto (v ∷ P b) (T b) × Passed m d e P T
  home k₀ l₀ t =
      let on-b : S b ≡ P b = onto_all (h.passed.onto b) (omega (arith, h.in_the_way)) in (
        onto_same (taken_is h.over t (omega (arith, h.covered)) ∙ ap (λ (q : List ℕ). v ∷ q) on-b),
        passed_step h.passed t (omega (arith, h.over.unpassed, h.covered)),
      )
