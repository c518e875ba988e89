-- Lift by lift any cassette that is not passed comes onto what is passed of any shaft, if a slot outside the two shafts is left; and out of its own shaft in any case.
use mathlib.Core.Path.{◌≡◌}
use mathlib.Core.Logic.{◌≢◌, Ne-symm}
use mathlib.Core.List.{List, ◌∷◌}
use Prim.Native.Nat.{ℕ, zero, suc, ◌+◌, ◌≤◌, ◌<◌}
use native.Mathlib.Decide.{dec_lt, dec_le}
use native.Mathlib.Omega.{arith}
use mathlib.Core.Bool.{cond}
use borrow.Author.Tests.{eq-eqb, ne_eqb}
use lib.Dec.{eqb}
use lib.ListN.{length}
use Rattle.stacks.specs.Run.{Stacks, Usable}
use Rattle.stacks.specs.Placing.{Onto, Passed, Over, Placing, lifts_left, Spare, all, some, Outside, Next, uncover, clear, across, away, heights_of}
use Rattle.stacks.proofs.Sums.{Look, found, nowhere, look}
use Rattle.stacks.proofs.Stores.{Lifted, one_lift, reached_here, lift_then, Leading, leading_lift}
use Rattle.stacks.proofs.PlacingLaws.{left_plain, left_pass, passed_step, over_step, over_lifted, left_lower, entered_higher, full_outside, advance, home}
use Rattle.stacks.proofs.RoundLaws.{off, Legal, next_legal, home_legal}

-- a lift that is legal, made
pub made : {m : ℕ} {d : ℕ → ℕ} {S : Stacks} {x y : ℕ} → Legal m d S x y → Lifted m d S x y
made {m} {d} {S} {x} {y} h = one_lift m d S x y h.differ h.left h.entered h.some h.room

-- A store that is reached after v has come onto what is passed of b.
abbrev pub Placed : (m : ℕ) (d : ℕ → ℕ) (e : ℕ) (P : Stacks) (b v : ℕ) (S : Stacks) (bound : ℕ) → Type 0
Placed m d e P b v S = Leading m d S (λ T. Onto (v ∷ P b) (T b) × Passed m d e P T)

-- A lift that brings v nearer.
pub record Chosen (m : ℕ) (d : ℕ → ℕ) (a b k l r : ℕ) (S : Stacks) : Type 0 where
  pub left : ℕ
  pub entered : ℕ
  pub next : Next m d a b k l r (heights_of S) left entered

-- v, which stood in b on p, stands on top of another shaft.
pub record Gone (m : ℕ) (d : ℕ → ℕ) (e : ℕ) (P : Stacks) (b v : ℕ) (p : List ℕ) (store : Stacks) : Type 0 where
  pub passed : Passed m d e P store
  pub shaft : ℕ
  pub under : List ℕ
  pub usable : Usable m shaft
  pub differ : shaft ≢ b
  pub over : Over P store v shaft under
  pub top : length (store shaft) ≡ suc (length under)
  pub low : length (store b) ≡ length p

module _ {m : ℕ} {d : ℕ → ℕ} {e : ℕ} {P : Stacks} {b v : ℕ} where
  -- While something is in the way there is one.
  chosen : {S : Stacks} {a : ℕ} {p : List ℕ} {k l r : ℕ} → Placing m d e P b v S a p k l r → 0 < k + l → Chosen m d a b k l r S
  chosen {S} {a} {p} {k} {l} {r} h some-way = go (look m a (λ i. length (S i)) (λ i. cond (eqb i b) 0 (d i)))
    where
      aside : (c : ℕ) → Outside m d a b (heights_of S) c → Spare k l r → Chosen m d a b k l r S
      aside c o s = elim (dec_lt 0 k) [
        | yes k₁ ↦ record { left = a; entered = c; next = uncover k₁ s o }
        | no k₀ ↦ record { left = b; entered = c; next = clear (omega arith) (omega arith) s o }
      ]

      pass : (c : ℕ) → Outside m d a b (heights_of S) c → r ≡ 1 → r < k + l → Chosen m d a b k l r S
      pass c o r₁ z = elim (dec_lt 0 k) [
        | yes k₁ ↦ record { left = a; entered = b; next = across k₁ r₁ (omega arith) }
        | no k₀ ↦ record { left = a; entered = c; next = away (omega arith) r₁ (omega arith) o }
      ]

      on : (c : ℕ) → Outside m d a b (heights_of S) c → Chosen m d a b k l r S
      on c o = elim (dec_le (k + l) r) [
        | yes z ↦ aside c o (all z)
        | no z ↦ elim (dec_lt 1 r) [ yes y ↦ aside c o (some y) | no y ↦ pass c o (omega (arith, h.way some-way)) (omega arith) ]
      ]

      -- some shaft outside a and b has room: not all are full
      go : Look m a (λ i. length (S i)) (λ i. cond (eqb i b) 0 (d i)) → Chosen m d a b k l r S
      go (nowhere f) =
          let full = full_outside h.passed a b h.differ h.first h.second (λ c u na nb. rw (ne_eqb c b nb) at (f c u na)) in
          absurd (omega (arith, h.way some-way, h.outside))
      go (found c) =
          let nb : c.place ≢ b = λ e. omega (arith, rw (eq-eqb c.place b e) at c.less) in
          on c.place (record { usable = c.below; not_first = c.other; not_second = nb; room = rw (ne_eqb c.place b nb) at c.less })

  -- Lift by lift v comes onto what is passed of b.
  pub placed : (n : ℕ) {S : Stacks} {a : ℕ} {p : List ℕ} {k l r : ℕ} → Placing m d e P b v S a p k l r → lifts_left k l r ≤ n → Placed m d e P b v S n
  placed zero {k = k} {l} {r} h f = elim (dec_le (k + l) r) [
    | yes z ↦ absurd (omega (arith, left_plain k l r z))
    | no z ↦ absurd (omega (arith, left_pass k l r (omega arith)))
  ]
  placed (suc n) {S} {a} {p} {k} {l} {r} h f = elim (dec_lt 0 (k + l)) [
    | yes z ↦
        let c = chosen h z in
        let t = made (next_legal h c.next) in
        let w = advance h c.next t.legal in
        leading_lift t.legal (placed n w.placing (omega (arith, w.fewer)))
    | no z ↦
        let t = made (home_legal h (omega arith)) in
        record { store = t.store; reached = lift_then t.legal (reached_here m d t.store n); so = home h (omega arith) (omega arith) t.legal }
  ]

  -- Lift by lift what covers v, and then v, leaves b.
  pub gone : (n : ℕ) {S : Stacks} {p : List ℕ} → Usable m b → Passed m d e P S → Over P S v b p → n + suc (length p) ≡ length (S b)
      → Leading m d S (Gone m d e P b v p) (suc n)
  gone zero {S} {p} u h o q =
      let c = off u h o in
      let t = one_lift m d S b c.place (Ne-symm c.other) u c.below (omega arith) c.less in
      record {
        store = t.store;
        reached = lift_then t.legal (reached_here m d t.store 0);
        so = record {
          passed = passed_step h t.legal (omega (arith, o.unpassed));
          shaft = c.place;
          under = S c.place;
          usable = c.below;
          differ = c.other;
          over = over_lifted h o t.legal (omega arith);
          top = entered_higher t.legal;
          low = omega (arith, left_lower t.legal);
        };
      }
  gone (suc n) {S} {p} u h o q =
      let c = off u h o in
      let t = one_lift m d S b c.place (Ne-symm c.other) u c.below (omega arith) c.less in
      leading_lift t.legal
      (gone n u (passed_step h t.legal (omega (arith, o.unpassed))) (over_step o t.legal (λ _. omega arith)) (omega (arith, left_lower t.legal)))
