-- What stands at each place of the reading, how long it is, and that the rows of a shaft are a stretch of the slots.
use mathlib.Core.List.{List, [], ◌∷◌, ◌++◌, append_assoc}
use mathlib.Core.Path.{◌≡◌, refl, sym, ap, ◌∙◌}
use Prim.Native.Nat.{ℕ, zero, suc, ◌+◌, ◌-◌, ◌*◌, ◌≤◌, ◌<◌}
use native.Mathlib.Decide.{dec_lt}
use native.Mathlib.Omega.{arith}
use lib.ListN.{length, get_or, take, drop, length-drop, length-reverse_aux}
use lib.Seq.{take-suc, ext_get_or}
use Rattle.std.proofs.lemmas.List.{get_or-drop}
use Rattle.lifts.specs.Lifting.{shown}
use Rattle.stacks.specs.TwoStackReading.{two_stack_reading}
use Rattle.store.specs.declared.Store.{Store}
use Rattle.store.specs.Slots.{height, slot, upward, downward, stack}
use Rattle.rows.specs.Rows.{rows_down, rows_up}
use Rattle.store.proofs.Rows.{stack_length}
use Rattle.reach.specs.Rules.{two_shaft_reading}
use Rattle.reach.proofs.Agree.{reading_agrees}

module _ (s : Store) where
  -- what follows rows 1 to k
  after_rows : (x k j : ℕ) (r : List ℕ) → get_or (upward s x k ++ r) (k + j) 0 ≡ get_or r j 0
  unfolding rows_up
  after_rows x zero j r = ap (λ n. get_or r n 0) (omega arith)
  after_rows x (suc k) j r =
      let e : suc k + j ≡ k + suc j = omega arith in
      rw (append_assoc, e) (after_rows x k (suc j) (slot s x (suc k) ∷ r))

  -- the rows themselves
  among_rows : (x k i : ℕ) (r : List ℕ) → i < k → get_or (upward s x k ++ r) i 0 ≡ get_or s.slots (16 * x + i) 0
  unfolding rows_up shown
  among_rows x zero i r h = absurd (omega arith)
  among_rows x (suc k) i r h =
      rw append_assoc
      (elim (dec_lt i k) [
        | yes j ↦ among_rows x k i (slot s x (suc k) ∷ r) j
        | no j ↦
            let e : i ≡ k + 0 = omega arith in
            let f : k + 0 ≡ k = omega arith in
            rw e (after_rows x k 0 (slot s x (suc k) ∷ r) ∙ rw f)
      ])

  -- rows 1 to k read downward
  downward_at : (x k i : ℕ) → i < k → get_or (downward s x k) i 0 ≡ get_or s.slots (16 * x + (k - 1 - i)) 0
  unfolding rows_down shown
  downward_at x zero i h = absurd (omega arith)
  downward_at x (suc k) zero h = ap (λ n. get_or s.slots (16 * x + n) 0) (omega arith)
  downward_at x (suc k) (suc i) h = downward_at x k i (omega arith) ∙ ap (λ n. get_or s.slots (16 * x + n) 0) (omega arith)

  -- a place of the reading in shaft 0, and one in shaft 1
  pub read_low : (p : ℕ) → p < height s 0 → get_or s.slots p 0 ≡ get_or (two_shaft_reading s) p 0
  unfolding two_shaft_reading
  read_low p h = sym (among_rows 0 (height s 0) p _ h ∙ ap (λ n. get_or s.slots n 0) (omega arith))

  pub read_high : (n p : ℕ) → n ≡ height s 0 + height s 1 → p < n → height s 0 ≤ p → get_or s.slots (16 + (n - 1 - p)) 0 ≡ get_or (two_shaft_reading s) p 0
  unfolding two_shaft_reading
  read_high n p e h i =
      let j : ℕ = p - height s 0 in
      sym (ap (λ k. get_or (two_shaft_reading s) k 0) (omega arith)
      ∙ after_rows 0 (height s 0) j (downward s 1 (height s 1))
      ∙ downward_at 1 (height s 1) j (omega arith)
      ∙ ap (λ k. get_or s.slots k 0) (omega arith))

  reading_length : length (two_shaft_reading s) ≡ height s 0 + height s 1
  unfolding two_stack_reading
  reading_length =
      ap length (reading_agrees s) ∙ length-reverse_aux (stack s 0) (stack s 1) ∙ omega (arith, stack_length s 0, stack_length s 1)

module _ (s t : Store) where
  -- readings of n cassettes that agree at each place are the same
  pub same_readings : (n : ℕ) → n ≡ height s 0 + height s 1 → n ≡ height t 0 + height t 1
      → ((p : ℕ) → p < n → get_or (two_shaft_reading s) p 0 ≡ get_or (two_shaft_reading t) p 0) → two_shaft_reading s ≡ two_shaft_reading t
  same_readings n e f g =
      ext_get_or 0 (two_shaft_reading s) (two_shaft_reading t) (reading_length s ∙ sym e ∙ f ∙ sym (reading_length t)) λ p h. g p (omega (arith, reading_length s))

-- rows 1 to k of shaft x are a stretch of the slots
rows_taken : (l : List ℕ) (x k : ℕ) → 16 * x + k ≤ length l → rows_up l x k ≡ take k (drop (16 * x) l)
unfolding rows_up shown
rows_taken l x zero h = refl
rows_taken l x (suc k) h =
    let here : k < length (drop (16 * x) l) = simp length-drop (omega arith) in
    ap (λ (w : List ℕ). w ++ (get_or l (16 * x + k) 0 ∷ [])) (rows_taken l x k (omega arith))
    ∙ sym (take-suc (drop (16 * x) l) k 0 here ∙ ap (λ (v : ℕ). take k (drop (16 * x) l) ++ (v ∷ [])) (get_or-drop (16 * x) l k 0))

pub rows_stretch : (l : List ℕ) (x k : ℕ) → 16 * x + k ≤ length l → rows_up l x k ≡ take (16 * x + k - 16 * x) (drop (16 * x) l)
rows_stretch l x k h = rows_taken l x k h ∙ ap (λ (n : ℕ). take n (drop (16 * x) l)) (omega arith)
