-- The counts beside the slots: all 0 at the start, and after a lift one more for the cassette that it carried and the same for every other.
use Rattle.std.proofs.Common.{◌≡◌, ℕ, suc, ◌+◌, ◌-◌, ◌*◌, ◌<◌, ◌≤◌, Bool, true, false, eqb, List, length, get_or, set, sym, refl, ap, ◌∙◌, ap₂, arith, length-set, get_or-set_other, get_or-set_same, eq-eqb}
use Rattle.stacks.specs.Count.{one}
use Rattle.stacks.proofs.Sums.{sum_none, term_le_sum, sum_differ_two}
use Rattle.marks.specs.Cassettes.{given}
use Rattle.lifts.specs.Lifting.{most_rows, slot_count}
use Rattle.lifts.proofs.Moving.{shown_place, slots_after_lem}
use Rattle.store.specs.declared.Store.{Store}
use Rattle.store.specs.Lifts.{Allowed, lifted}
use Rattle.store.specs.Slots.{height, top_of}
use Rattle.store.specs.Sound.{Shaped}
use Rattle.replay.specs.Counting.{NoneCounted, moved_on}
use Rattle.replay.specs.Promises.{carries_of}

given_zero : (b : Bool) (k : ℕ) → k ≡ 0 → given b k ≡ 0
given_zero true k e = e
given_zero false k e = refl

given_suc : (b : Bool) (k : ℕ) → given b (suc k) ≡ one b + given b k
given_suc true k = omega arith
given_suc false k = refl

-- where every count is 0, no cassette was carried
pub none_carried : (c : ℕ) (slots carries : List ℕ) → NoneCounted carries → carries_of c slots carries ≡ 0
unfolding carries_of
none_carried c slots carries z =
    sum_none slot_count _ (λ i h. given_zero (eqb c (get_or slots i 0)) (get_or carries i 0) (z i))

-- the count beside a slot is one of those of the cassette that it shows
pub count_beside : (slots carries : List ℕ) (i : ℕ) → i < slot_count → get_or carries i 0 ≤ carries_of (get_or slots i 0) slots carries
unfolding carries_of
count_beside slots carries i h =
    let c = get_or slots i 0 in
    omega (
      arith,
      term_le_sum slot_count (λ j. given (eqb c (get_or slots j 0)) (get_or carries j 0)) i h,
      ap (λ b. given b (get_or carries i 0)) (eq-eqb c c refl),
    )

-- a cassette v and its count went from place i to place j, where none was counted
module _ (slots carries : List ℕ) (i j v : ℕ) (differ : i ≡ j → ⊥) (below : (i < slot_count) × (j < slot_count)) (sized : (length slots ≡ slot_count) × (length carries ≡ slot_count))
    (stood : get_or slots i 0 ≡ v) (none : get_or carries j 0 ≡ 0) where
  moved_on_lem : (c : ℕ) → carries_of c (set (set slots i 0) j v) (moved_on carries i j) ≡ one (eqb c v) + carries_of c slots carries
  unfolding carries_of
  moved_on_lem c =
      let k = get_or carries i 0 in
      let came : ℕ → ℕ = λ n. given (eqb c (get_or slots n 0)) (get_or carries n 0) in
      let went : ℕ → ℕ = λ n. given (eqb c (get_or (set (set slots i 0) j v) n 0)) (get_or (moved_on carries i j) n 0) in
      let left : went i ≡ 0 =
      given_zero (eqb c (get_or (set (set slots i 0) j v) i 0)) (get_or (moved_on carries i j) i 0) (get_or-set_other (set carries i 0) j i (suc k) 0 differ ∙ get_or-set_same carries i 0 0 (omega arith)) in
      let entered : went j ≡ one (eqb c v) + given (eqb c v) k =
      ap₂ (λ (x y : ℕ). given (eqb c x) y) (get_or-set_same (set slots i 0) j v 0 (omega (arith, length-set slots i 0))) (get_or-set_same (set carries i 0) j (suc k) 0 (omega (arith, length-set carries i 0)))
      ∙ given_suc (eqb c v) k in
      let elsewhere : (n : ℕ) → n < slot_count → (n ≡ i → ⊥) → (n ≡ j → ⊥) → went n ≡ came n =
      λ n h f g. ap₂ (λ (x y : ℕ). given (eqb c x) y) (get_or-set_other (set slots i 0) j n v 0 g ∙ get_or-set_other slots i n 0 0 f)
      (get_or-set_other (set carries i 0) j n (suc k) 0 g ∙ get_or-set_other carries i n 0 0 f) in
      omega (
        arith,
        sum_differ_two slot_count went came i j differ below.0 below.1 elsewhere,
        left,
        entered,
        ap (λ (x : ℕ). given (eqb c x) k) stood,
        given_zero (eqb c (get_or slots j 0)) (get_or carries j 0) none,
      )

-- a lift counts for the cassette that it carried, and for no other
pub carries_lifted : (s : Store) (a b : ℕ) → Shaped s → Allowed s a b → (carries : List ℕ) → length carries ≡ slot_count → get_or carries (16 * b + height s b) 0 ≡ 0
    → (c : ℕ) → carries_of c (lifted s a b).slots (moved_on carries (16 * a + (height s a - 1)) (16 * b + height s b)) ≡ one (eqb c (top_of s a)) + carries_of c s.slots carries
unfolding lifted
carries_lifted s a b p q carries e z c =
    let i = 16 * a + (height s a - 1) in
    let j = 16 * b + height s b in
    let top : height s a ≤ most_rows = omega (arith, p.heights a, p.rows a) in
    let room : height s b < most_rows = omega (arith, q.room, p.rows b) in
    ap (λ (l : List ℕ). carries_of c l (moved_on carries i j)) (slots_after_lem s.heights s.slots a b q.taken)
    ∙ moved_on_lem s.slots carries i j (top_of s a) (λ h. q.differ (omega (arith, q.taken, top, room))) (omega (arith, q.left_below, p.shafts, top), omega (arith, q.entered_below, p.shafts, room)) (p.slots_sized, e)
    (sym (shown_place s.slots a (height s a) q.taken)) z c
