-- The slot view and the stack view of a store agree: a lift of the one is a step of the other, and stores with the same stacks are the same.
use mathlib.Core.List.{List, ◌∷◌}
use mathlib.Core.Path.{◌≡◌, sym, ap, ◌∙◌, fun_ext}
use Prim.Native.Nat.{ℕ, suc, ◌+◌, ◌-◌, ◌/◌, ◌%◌, ◌≤◌, ◌<◌}
use native.Mathlib.Decide.{dec_lt, ℕ_discrete}
use native.Mathlib.Nat.{div-add-mod}
use native.Mathlib.Omega.{arith}
use lib.ListN.{length, get_or, set, length-set}
use lib.Seq.{get_or-set_same, get_or-set_other, ext_get_or}
use Rattle.stacks.specs.Run.{Stacks, Lift, Step}
use Rattle.stacks.specs.Moves.{lift}
use Rattle.stacks.proofs.Sums.{everywhere}
use Rattle.marks.specs.Cassettes.{numbers}
use Rattle.lifts.specs.Lifting.{most_shafts, most_rows, slot_count, shown, placed_at}
use Rattle.lifts.proofs.Moving.{placed_length, placed_same, placed_other}
use Rattle.store.specs.declared.Store.{Store}
use Rattle.store.specs.Slots.{depth, SameFrame, height, slot, downward, stack}
use Rattle.store.specs.Lifts.{Allowed, lifted}
use Rattle.store.specs.Sound.{Shaped}
use Rattle.store.proofs.Rows.{row_each, placed_each, stack_length, stack_top, same_rows, rows_same}

-- Definition 3.2, slot by slot: the slot left is empty, the slot entered holds the cassette, every other slot is as it was, and so are the heights
-- but for the two shafts.
pub record Moved (s : Store) (a b : ℕ) (t : Store) : Type 0 where
  pub gone : slot t a (height s a) ≡ 0
  pub placed : slot t b (suc (height s b)) ≡ slot s a (height s a)
  pub lower : suc (height t a) ≡ height s a
  pub higher : height t b ≡ suc (height s b)
  pub others : (x : ℕ) → (x ≡ a → ⊥) → (x ≡ b → ⊥) → height t x ≡ height s x
  pub kept : (x k : ℕ) → x < most_shafts → k < most_rows → ((x ≡ a) × (suc k ≡ height s a) → ⊥) → ((x ≡ b) × (k ≡ height s b) → ⊥) → slot t x (suc k) ≡ slot s x (suc k)

pub lift_moves : (s : Store) (a b : ℕ) → Shaped s → Allowed s a b → Moved s a b (lifted s a b)
unfolding lifted
lift_moves s a b p q =
    let a-rows : height s a ≤ most_rows = omega (arith, p.heights a, p.rows a) in
    let b-rows : height s b < most_rows = omega (arith, q.room, p.rows b) in
    let heights = set s.heights a (height s a - 1) in
    let l : List ℕ = placed_at s.slots a (height s a) 0 in
    let n : length l ≡ slot_count = placed_length s.slots a (height s a) 0 ∙ p.slots_sized in
    let other : (x n : ℕ) → n ≤ most_rows → ((x ≡ b) × (n ≡ suc (height s b)) → ⊥) → slot (lifted s a b) x n ≡ shown l x n =
    λ x n. placed_other l b (suc (height s b)) (slot s a (height s a)) x n (omega arith) in
    record {
      gone = other a (height s a) (omega arith) (λ z. q.differ z.0)
          ∙ placed_same s.slots a (height s a) 0 p.slots_sized (omega arith) q.taken (omega arith);
      placed = placed_same l b (suc (height s b)) (slot s a (height s a)) n (omega arith) (omega arith) (omega arith);
      lower = omega (arith, get_or-set_other heights b a (height s b + 1) 0 q.differ, get_or-set_same s.heights a (height s a - 1) 0 (omega arith));
      higher = omega (arith, get_or-set_same heights b (height s b + 1) 0 (omega (arith, length-set s.heights a (height s a - 1))));
      others = λ x i j. get_or-set_other heights b x (height s b + 1) 0 j ∙ get_or-set_other s.heights a x (height s a - 1) 0 i;
      kept = λ x k i j d f. other x (suc k) j (λ z. f (z.0, omega arith)) ∙ placed_other s.slots a (height s a) 0 x (suc k) (omega arith) j d;
    }

-- what holds of both shafts of a lift and of every other shaft holds of all
pub at_and_elsewhere : (P : ℕ → Type 0) (a b : ℕ) → P a → P b → ((x : ℕ) → (x ≡ a → ⊥) → (x ≡ b → ⊥) → P x) → (x : ℕ) → P x
at_and_elsewhere P a b u v w = everywhere P a u (everywhere (λ x. (x ≡ a → ⊥) → P x) b (λ i. v) (λ x j i. w x i j))

-- what holds of 0 and of every number of the slots holds of every number of the slots after a lift
pub lifted_each : (P : ℕ → Type 0) (s : Store) (a b : ℕ) → P 0 → ((i : ℕ) → P (get_or s.slots i 0)) → (i : ℕ) → P (get_or (lifted s a b).slots i 0)
unfolding lifted
lifted_each P s a b z h =
    placed_each P (placed_at s.slots a (height s a) 0) b (suc (height s b)) _ (row_each P s.slots a (height s a) z h) (placed_each P s.slots a (height s a) 0 z h)

-- after a lift nothing stands above the new heights
pub lifted_shaped : (s : Store) (a b : ℕ) → Shaped s → Allowed s a b → Shaped (lifted s a b)
unfolding lifted
lifted_shaped s a b p q =
    let t : Store = lifted s a b in
    let v : Moved s a b t = lift_moves s a b p q in
    record {
      depths_sized = p.depths_sized;
      heights_sized = simp length-set p.heights_sized;
      slots_sized = simp placed_length p.slots_sized;
      numbered = lifted_each (λ c. c < numbers) s a b (omega arith) p.numbered;
      shafts = p.shafts;
      rows = p.rows;
      heights = at_and_elsewhere (λ x. height t x ≤ depth s x) a b (omega (arith, p.heights a)) (omega arith)
          (λ x i j. rw (v.others x i j) (p.heights x));
      none_beyond = p.none_beyond;
      none_above = at_and_elsewhere (λ x. (k : ℕ) → x < most_shafts → k < most_rows → height t x ≤ k → slot t x (suc k) ≡ 0) a b
          (λ k i j h. elim (ℕ_discrete (suc k) (height s a)) [
            | yes e ↦ ap (slot t a) e ∙ v.gone
            | no n ↦ v.kept a k i j (λ z. n z.1) (λ z. q.differ z.0) ∙ p.none_above a k i j (omega arith)
          ])
          (λ k i j h. v.kept b k i j (λ z. q.differ (sym z.0)) (omega arith) ∙ p.none_above b k i j (omega arith))
          (λ x n o k i j h. v.kept x k i j (λ z. n z.0) (λ z. o z.0) ∙ p.none_above x k i j (omega (arith, v.others x n o)));
    }

-- a shaft that holds a cassette is one of the store's
pub holds_below : (s : Store) (x : ℕ) → Shaped s → 0 < height s x → x < s.m
holds_below s x p h = elim (dec_lt x s.m) [ yes i ↦ i | no i ↦ absurd (omega (arith, p.heights x, p.none_beyond x (omega arith))) ]

-- what a lift makes of each stack
module _ (s : Store) (a b : ℕ) (p : Shaped s) (q : Allowed s a b) where
  moves : Moved s a b (lifted s a b)
  moves = lift_moves s a b p q

  -- a row that holds a cassette before and after holds the same
  pub kept_rows : (x k : ℕ) → k < height s x → k < height (lifted s a b) x → slot (lifted s a b) x (suc k) ≡ slot s x (suc k)
  kept_rows x k h i =
      moves.kept x k (omega (arith, holds_below s x p (omega arith), p.shafts)) (omega (arith, p.heights x, p.rows x))
      (λ z. omega (arith, moves.lower, ap (height (lifted s a b)) z.0)) (λ z. omega (arith, ap (height s) z.0))

  left_stack : stack s a ≡ slot s a (height s a) ∷ stack (lifted s a b) a
  unfolding stack
  left_stack =
      let n = height (lifted s a b) a in
      stack_top s a n moves.lower ∙ rw (same_rows s (lifted s a b) a n (λ k h. sym (kept_rows a k (omega (arith, moves.lower)) h)))

  entered_stack : stack (lifted s a b) b ≡ slot s a (height s a) ∷ stack s b
  unfolding stack
  entered_stack =
      stack_top (lifted s a b) b (height s b) (sym moves.higher)
      ∙ rw (moves.higher, moves.placed, same_rows (lifted s a b) s b (height s b) (λ k h. kept_rows b k h (omega (arith, moves.higher))))

  other_stack : (x : ℕ) → (x ≡ a → ⊥) → (x ≡ b → ⊥) → stack (lifted s a b) x ≡ stack s x
  unfolding stack
  other_stack x i j =
      let e = moves.others x i j in
      rw e (same_rows (lifted s a b) s x (height s x) (λ k h. kept_rows x k h (omega arith)))

-- an allowed lift is a step of the stacks
pub lift_step : (s : Store) (a b : ℕ) → Shaped s → Allowed s a b → Step s.m (depth s) (lift a b) (stack s) (stack (lifted s a b))
lift_step s a b p q = record {
  differ = q.differ;
  left_below = q.left_below;
  entered_below = q.entered_below;
  cassette = slot s a (height s a);
  taken = left_stack s a b p q;
  placed = entered_stack s a b p q;
  room = rw stack_length q.room;
  kept = other_stack s a b p q;
}

-- a step of the stacks is an allowed lift
pub step_allowed : (s : Store) (l : Lift) (T : Stacks) → Shaped s → Step s.m (depth s) l (stack s) T → Allowed s l.left l.entered
step_allowed s l T p q = record {
  left_below = q.left_below;
  entered_below = q.entered_below;
  differ = q.differ;
  taken = omega (arith, stack_length s l.left, ap length q.taken);
  room = rw stack_length at q.room;
}

-- and leads to the stacks of the store after it
pub step_lifted : (s : Store) (l : Lift) (T : Stacks) → Shaped s → Step s.m (depth s) l (stack s) T → stack (lifted s l.left l.entered) ≡ T
step_lifted s l T p q =
    let t : Store = lifted s l.left l.entered in
    let r : Step s.m (depth s) l (stack s) (stack t) = lift_step s l.left l.entered p (step_allowed s l T p q) in
    fun_ext (at_and_elsewhere (λ x. stack t x ≡ T x) l.left l.entered (cc) (cc) λ x i j. r.kept x i j ∙ sym (q.kept x i j))

-- shaped stores with the same stacks have the same heights and the same slots
module _ (s t : Store) (p : Shaped s) (q : Shaped t) (g : (x : ℕ) → stack s x ≡ stack t x) where
  same_height : (x : ℕ) → height s x ≡ height t x
  same_height x = sym (stack_length s x) ∙ ap length (g x) ∙ stack_length t x

  same_heights : s.heights ≡ t.heights
  same_heights = ext_get_or 0 s.heights t.heights (p.heights_sized ∙ sym q.heights_sized) λ x h. same_height x

  same_slot : (x k : ℕ) → x < most_shafts → k < most_rows → slot s x (suc k) ≡ slot t x (suc k)
  unfolding stack
  same_slot x k i j =
      let e : height s x ≡ height t x = same_height x in
      elim (dec_lt k (height s x)) [
        | yes h ↦ rows_same s t x (height s x) k (g x ∙ ap (downward t x) (sym e)) h
        | no h ↦ p.none_above x k i j (omega arith) ∙ sym (q.none_above x k i j (omega arith))
      ]

  same_slots : s.slots ≡ t.slots
  unfolding shown
  same_slots =
      ext_get_or 0 s.slots t.slots (p.slots_sized ∙ sym q.slots_sized)
      λ i h. rw div-add-mod at (same_slot (i / 16) (i % 16) (omega (arith, p.slots_sized)) (omega arith))

-- no two shaped stores of one frame have the same stacks
pub same_stacks : (s t : Store) → Shaped s → Shaped t → SameFrame s t → ((x : ℕ) → stack s x ≡ stack t x) → s ≡ t
same_stacks s t p q f g = λ i. record { m = f.shafts i; depths = f.depths i; heights = same_heights s t p q g i; slots = same_slots s t p q g i }
