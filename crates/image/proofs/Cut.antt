-- The first p places of an array, with zeros after them: how a store looks while an image is read or written.
use mathlib.Core.List.{List, ◌++◌, append-nil}
use mathlib.Core.Path.{◌≡◌, refl, sym, ap, ◌∙◌}
use Prim.Native.Nat.{ℕ, zero, suc, ◌+◌, ◌-◌, ◌≤◌, ◌<◌}
use native.Mathlib.Decide.{dec_lt}
use native.Mathlib.Omega.{arith}
use lib.ListN.{length, get_or, take, set, replicate, length-set, get_or-append}
use lib.Seq.{take-suc, take_all, take-take, take-append-le, take-set-le, length-take-le, set_at, append_snoc, get_or-append-add, get_or-take, get_or-set_same, set-get_or}
use Rattle.marks.proofs.MarkLaws.{zeros}
use Rattle.lifts.specs.Lifting.{most_shafts, slot_count, shown}
use Rattle.store.specs.declared.Store.{Store}
use Rattle.store.specs.Slots.{held}
use Rattle.rows.specs.Rows.{rows_up}

abbrev pub cut_at : ℕ → ℕ → List ℕ → List ℕ
cut_at n p l = take p l ++ replicate (n - p) 0

module _ (n : ℕ) (l : List ℕ) (sized : length l ≡ n) where
  -- a place before the cut, and one after it
  pub cut_below : (p i : ℕ) → p ≤ n → i < p → get_or (cut_at n p l) i 0 ≡ get_or l i 0
  cut_below p i h k =
      get_or-append (take p l) (replicate (n - p) 0) 0 i (rw (length-take-le p l (omega arith)) k) ∙ get_or-take p l i 0 k

  pub cut_beyond : (p i : ℕ) → p ≤ n → p ≤ i → get_or (cut_at n p l) i 0 ≡ 0
  cut_beyond p i h k =
      let e : length (take p l) + (i - p) ≡ i = omega (arith, length-take-le p l (omega arith)) in
      ap (λ (j : ℕ). get_or (cut_at n p l) j 0) (sym e) ∙ get_or-append-add (take p l) (replicate (n - p) 0) (i - p) 0 ∙ zeros (n - p) (i - p)

  -- the cut one place further
  pub cut_set : (p : ℕ) → p < n → set (cut_at n p l) p (get_or l p 0) ≡ cut_at n (suc p) l
  cut_set p h =
      let e : n - p ≡ suc (n - suc p) = omega arith in
      rw (e, take-suc l p 0 (omega arith), append_snoc) (set_at (take p l) 0 (replicate (n - suc p) 0) (get_or l p 0) p (length-take-le p l (omega arith)))

  -- the cut may move over zeros
  pub cut_to : (p q : ℕ) → p ≤ q → q ≤ n → ((i : ℕ) → p ≤ i → i < q → get_or l i 0 ≡ 0) → cut_at n p l ≡ cut_at n q l
  cut_to p zero h k z = let e : p ≡ 0 = omega arith in rw e
  cut_to p (suc q) h k z =
      elim (dec_lt q p) [
        | yes g ↦ (let e : p ≡ suc q = omega arith in rw e)
        | no g ↦
            cut_to p q (omega arith) (omega arith) (λ i a b. z i a (omega arith))
            ∙ cc (set-get_or (cut_at n q l) q 0, cut_beyond q q (omega arith) (omega arith), z q (omega arith) (omega arith), cut_set q k)
      ]

  pub cut_all : cut_at n n l ≡ l
  cut_all = let e : n - n ≡ 0 = omega arith in rw e (append-nil (take n l) ∙ take_all n l (omega arith))

  pub cut_cut : (p q : ℕ) → p ≤ q → q ≤ n → cut_at n p (cut_at n q l) ≡ cut_at n p l
  cut_cut p q h k =
      ap (λ (m : List ℕ). m ++ replicate (n - p) 0)
      (take-append-le p (take q l) (replicate (n - q) 0) (rw (length-take-le q l (omega arith)) h) ∙ take-take p q l h)

  -- a store past the cut is not seen before it
  pub cut_before : (p q v : ℕ) → p ≤ q → cut_at n p (set l q v) ≡ cut_at n p l
  cut_before p q v h = ap (λ (m : List ℕ). m ++ replicate (n - p) 0) (take-set-le p l q v h)

-- nothing stands from p on: it stays so after a store at p, for p + 1
pub low_set : (n : ℕ) (l : List ℕ) (p v : ℕ) → length l ≡ n → p < n → cut_at n p l ≡ l → cut_at n (suc p) (set l p v) ≡ set l p v
low_set n l p v sized h low =
    let e = cut_set n (set l p v) (length-set l p v ∙ sized) p h in
    cc (e, get_or-set_same l p v 0 (omega arith), cut_before n l sized p p v (omega arith), low)

pub low_zero : (n : ℕ) (l : List ℕ) (p i : ℕ) → length l ≡ n → p ≤ n → cut_at n p l ≡ l → p ≤ i → get_or l i 0 ≡ 0
low_zero n l p i sized h low k = ap (λ (m : List ℕ). get_or m i 0) (sym low) ∙ cut_beyond n l sized p i h k

pub low_to : (n : ℕ) (l : List ℕ) (p q : ℕ) → length l ≡ n → p ≤ q → q ≤ n → cut_at n p l ≡ l → cut_at n q l ≡ l
low_to n l p q sized h k low = sym (cut_to n l sized p q h k (λ i a b. low_zero n l p i sized (omega arith) low a)) ∙ low

-- rows of a shaft, read upward, go by their slots
pub rows_agree : (a b : List ℕ) (x k : ℕ) → ((j : ℕ) → j < k → shown a x (suc j) ≡ shown b x (suc j)) → rows_up a x k ≡ rows_up b x k
unfolding rows_up
rows_agree a b x zero h = refl
rows_agree a b x (suc k) h = rw (rows_agree a b x k (λ j p. h j (omega arith)), h k (omega arith))

-- the store with its first i depths and heights and its first p slots
abbrev pub cut : Store → ℕ → ℕ → Store
cut s i p = held s.m (cut_at most_shafts i s.depths) (cut_at most_shafts i s.heights) (cut_at slot_count p s.slots)

-- stores whose arrays are the same
pub held_same : (m : ℕ) {a b c d e f : List ℕ} → a ≡ b → c ≡ d → e ≡ f → held m a c e ≡ held m b d f
held_same m p q r = λ i. held m (p i) (q i) (r i)
