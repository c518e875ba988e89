-- Laws of the state of a reading, for any part: nothing read, one part after another, a field and then a part, and parts in a loop; and a fault, which ends them.
use mathlib.Core.Bool.{Bool}
use mathlib.Core.List.{List}
use mathlib.Core.Path.{◌≡◌, refl, ◌∙◌}
use Prim.Native.Nat.{ℕ, zero, suc, ◌+◌, ◌*◌, ◌≤◌, ◌<◌}
use native.Mathlib.Decide.{dec_lt}
use native.Mathlib.Nat.{mul-suc}
use native.Mathlib.Numerals.{add-one}
use native.Mathlib.Omega.{arith}
use Rattle.std.specs.Prelude.{Result, Ok, Err}
use Rattle.store.specs.declared.Store.{Store}
use Rattle.image.specs.declared.ReadFault.{ReadFault}
use Rattle.image.specs.Reading.{Part, next_if}
use Rattle.fields.specs.Steps.{FieldIfIs}
use Rattle.columns.specs.declared.Work.{Work}
use Rattle.columns.specs.Columns.{Reads}

-- one part after another
abbrev pub then_part : Part → Part → Part
then_part f g b s l c = f b s l (λ d t k. g d t k c)

-- a field of n bits that is there or has the value v, and then a part that goes by it
abbrev pub field_then : Bool → ℕ → ℕ → (ℕ → Part) → Part
field_then there n v part b s l c = next_if there n v l (λ u r. part u b s r c)

module _ (bytes : List ℕ) where
  pub reads_none : (far : ℕ) (w : Work) → Reads bytes (λ b s l c. c b s l) far w w (Ok tt)
  reads_none far w = record {
    after = λ before m. record { seen = before; marks = m; same = λ c. refl };
    within = omega arith;
    shafts = refl;
  }

  pub reads_then : {f g : Part} {m n : ℕ} {w r s : Work} {q : Result Unit ReadFault} → Reads bytes f m w r (Ok tt) → Reads bytes g n r s q
      → Reads bytes (then_part f g) (m + n) w s q
  reads_then {g = g} x y = record {
    after = λ before m.
        let p = x.after before m in
        let q = y.after p.seen p.marks in
        record { seen = q.seen; marks = q.marks; same = λ c. p.same (λ b s l. g b s l c) ∙ q.same c };
    within = omega (arith, x.within, y.within);
    shafts = y.shafts ∙ x.shafts;
  }

  pub reads_stops : (f g : Part) (m n : ℕ) {w r : Work} {e : ReadFault} → Reads bytes f m w r (Err e) → Reads bytes (then_part f g) (m + n) w r (Err e)
  reads_stops f g m n x = record {
    after = λ before m.
        let p = x.after before m in
        record { seen = p.seen; marks = p.marks; same = λ c. p.same (λ b s l. g b s l c) };
    within = omega (arith, x.within);
    shafts = x.shafts;
  }

  module _ (there : Bool) (n v : ℕ) (part : ℕ → Part) (s : Store) (words : List ℕ) {at at' : ℕ} where
    pub field_reads : {far u : ℕ} {r : Work} {q : Result Unit ReadFault} → FieldIfIs bytes there n v at at' (Ok u)
        → Reads bytes (part u) far (record { store = s; words = words; at = at' }) r q
        → Reads bytes (field_then there n v part) (n + far) (record { store = s; words = words; at = at }) r q
    field_reads f x = record {
      after = λ before m.
          let p = x.after before m in
          record { seen = p.seen; marks = p.marks; same = λ k. f.same (λ u l. part u before s l k) ∙ p.same k };
      within = omega (arith, f.within, x.within);
      shafts = x.shafts;
    }

    pub field_stops : (far : ℕ) {e : ReadFault} → FieldIfIs bytes there n v at at' (Err e)
        → Reads bytes (field_then there n v part) (n + far) (record { store = s; words = words; at = at }) (record { store = s; words = words; at = at' }) (Err e)
    field_stops far f = record {
      after = λ before m. record { seen = before; marks = m; same = λ k. f.same (λ u l. part u before s l k) };
      within = omega (arith, f.within);
      shafts = refl;
    }

  -- Parts of at most d bits each, in a loop: none, one more, and a fault in one, which is one of all.
  module _ (part each : ℕ → Part) (d : ℕ) (start : part 0 ≡ (λ b s l c. c b s l)) (step : (k : ℕ) → part (suc k) ≡ then_part (part k) (each k)) where
    pub loop_none : (w : Work) → Reads bytes (part 0) (d * 0) w w (Ok tt)
    loop_none w = rw start (reads_none _ w)

    pub loop_more : (k : ℕ) {w r s : Work} {q : Result Unit ReadFault} → Reads bytes (part k) (d * k) w r (Ok tt) → Reads bytes (each k) d r s q
        → Reads bytes (part (k + 1)) (d * (k + 1)) w s q
    loop_more k x y = let e : d * k + d ≡ d * (k + 1) = omega arith in rw (← e, add-one k, step k) (reads_then x y)

    all_stop : (k n : ℕ) {w r : Work} {e : ReadFault} → k ≤ n → Reads bytes (part k) (d * k) w r (Err e) → Reads bytes (part n) (d * n) w r (Err e)
    all_stop k zero h x = let z : k ≡ 0 = omega arith in rw z at x
    all_stop k (suc n) h x =
        elim (dec_lt k (suc n)) [
          | yes a ↦ let e : d * n + d ≡ d * suc n = omega (arith, mul-suc d n) in rw (← e, step n) (reads_stops (part n) (each n) (d * n) d (all_stop k n (omega arith) x))
          | no a ↦ let z : k ≡ suc n = omega arith in rw z at x
        ]

    pub loop_stops : (k n : ℕ) {w r s : Work} {e : ReadFault} → k < n → Reads bytes (part k) (d * k) w r (Ok tt) → Reads bytes (each k) d r s (Err e)
        → Reads bytes (part n) (d * n) w s (Err e)
    loop_stops k n h x y = all_stop (k + 1) n (omega arith) (loop_more k x y)
