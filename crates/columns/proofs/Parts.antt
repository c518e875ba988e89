-- The parts of a reading, as the code does them: the rows of a shaft, its depth and its height, and the shafts.
use borrow.Author.Tests.{le-ltb, lt-ltb}
use mathlib.Core.Bool.{true}
use mathlib.Core.List.{List}
use mathlib.Core.Path.{refl}
use Prim.Native.Nat.{ℕ, ◌+◌, ◌*◌, ◌≤◌, ◌<◌}
use native.Mathlib.Nat.{add-zero, mul-le-mul}
use native.Mathlib.Omega.{arith}
use Rattle.std.specs.Prelude.{Result, Ok, Err}
use Rattle.lifts.specs.Lifting.{most_rows}
use Rattle.store.specs.declared.Store.{Store}
use Rattle.image.specs.declared.ReadFault.{ReadFault}
use Rattle.image.specs.Image.{frame_width, height_width, cassette_width, wide_width, own_depths}
use Rattle.image.specs.Coding.{meant}
use Rattle.image.specs.Reading.{Part, deepened, raised, take_cassette, read_row, read_rows, read_column, read_height, read_shaft, read_shafts}
use Rattle.fields.specs.declared.Head.{Head}
use Rattle.fields.specs.Steps.{FieldIs, FieldIfIs}
use Rattle.columns.specs.declared.Work.{Work}
use Rattle.columns.specs.Columns.{Reads, column_most, shaft_most, CassetteRead}
use Rattle.columns.proofs.States.{field_reads, field_stops, loop_none, loop_more, loop_stops}

-- the first rows of a shaft
module _ (bytes : List ℕ) (n x : ℕ) where
  pub no_rows : (w : Work) → Reads bytes (read_rows n x 0) (n * 0) w w (Ok tt)
  unfolding read_rows
  no_rows = loop_none bytes (read_rows n x) (read_row n x) n refl (λ k. refl)

  module _ (k : ℕ) {w r : Work} {at : ℕ} (p : Reads bytes (read_rows n x k) (n * k) w r (Ok tt)) where
    pub row_more : {u : ℕ} {s : Work} {q : Result Unit ReadFault} → FieldIs bytes n r.at at (Ok u)
        → CassetteRead n x k u (record { store = r.store; words = r.words; at = at }) s q → Reads bytes (read_rows n x (k + 1)) (n * (k + 1)) w s q
    unfolding read_rows
    row_more f o =
        loop_more bytes (read_rows n x) (read_row n x) n refl (λ k. refl) k p
        (rw add-zero at (field_reads bytes true n 0 (λ v. take_cassette x k (meant n v)) r.store r.words f (o.reads bytes)))

    pub row_refused : (rows : ℕ) → k < rows → {u : ℕ} {s : Work} {e : ReadFault} → FieldIs bytes n r.at at (Ok u)
        → CassetteRead n x k u (record { store = r.store; words = r.words; at = at }) s (Err e) → Reads bytes (read_rows n x rows) (n * rows) w s (Err e)
    unfolding read_rows
    row_refused rows h f o =
        loop_stops bytes (read_rows n x) (read_row n x) n refl (λ k. refl) k rows h p
        (rw add-zero at (field_reads bytes true n 0 (λ v. take_cassette x k (meant n v)) r.store r.words f (o.reads bytes)))

    pub row_missing : (rows : ℕ) → k < rows → {e : ReadFault} → FieldIs bytes n r.at at (Err e)
        → Reads bytes (read_rows n x rows) (n * rows) w (record { store = r.store; words = r.words; at = at }) (Err e)
    unfolding read_rows
    row_missing rows h f =
        loop_stops bytes (read_rows n x) (read_row n x) n refl (λ k. refl) k rows h p
        (rw add-zero at (field_stops bytes true n 0 (λ v. take_cassette x k (meant n v)) r.store r.words 0 f))

-- the height of a shaft of depth d, and its rows
module _ (bytes : List ℕ) (n d x v : ℕ) (s : Store) (words : List ℕ) (at : ℕ) where
  column_high : d < v → Reads bytes (read_column n x d v) column_most (record { store = s; words = words; at = at }) (record { store = s; words = words; at = at }) (Err ReadFault.TooHigh)
  unfolding read_column
  column_high h = record {
    after = λ before m. record { seen = before; marks = m; same = λ c. simp (lt-ltb d v h) };
    within = omega arith;
    shafts = refl;
  }

  column_goes : v ≤ d → d ≤ most_rows → n ≤ wide_width → {r : Work} {q : Result Unit ReadFault}
      → Reads bytes (read_rows n x v) (n * v) (record { store = raised s x v; words = words; at = at }) r q
      → Reads bytes (read_column n x d v) column_most (record { store = s; words = words; at = at }) r q
  unfolding read_column
  column_goes i j narrow p =
      let rows : v ≤ most_rows = omega arith in
      record {
        after = λ before a. let b = p.after before a in record { seen = b.seen; marks = b.marks; same = λ k. rw (le-ltb d v i) (b.same k) };
        within = omega (arith, p.within, mul-le-mul narrow rows);
        shafts = p.shafts;
      }

-- a shaft: its depth, set, and then its height and its rows
module _ {bytes : List ℕ} (h : Head) (x : ℕ) (s : Store) (words : List ℕ) {at at' at'' u v : ℕ} (f : FieldIfIs bytes (own_depths h.form) frame_width h.depth at at' (Ok u))
    (g : FieldIs bytes height_width at' at'' (Ok v)) where
  from_column : {r : Work} {q : Result Unit ReadFault}
      → Reads bytes (read_column (cassette_width h.form) x (u + 1) v) column_most (record { store = deepened s x (u + 1); words = words; at = at'' }) r q
      → Reads bytes (read_shaft h.form h.depth x) shaft_most (record { store = s; words = words; at = at }) r q
  from_column p =
      field_reads bytes (own_depths h.form) frame_width h.depth (λ w b t l c. read_height (cassette_width h.form) x (w + 1) b (deepened t x (w + 1)) l c) s words f
      (set_first (field_reads bytes true height_width 0 (read_column (cassette_width h.form) x (u + 1)) (deepened s x (u + 1)) words g p))
    where
      -- what is read after the depth is set
      set_first : {far : ℕ} {part : Part} {r : Work} {q : Result Unit ReadFault} → Reads bytes part far (record { store = deepened s x (u + 1); words = words; at = at' }) r q
          → Reads bytes (λ b t l c. part b (deepened t x (u + 1)) l c) far (record { store = s; words = words; at = at' }) r q
      set_first r = record { after = λ before a. let p = r.after before a in record { seen = p.seen; marks = p.marks; same = p.same }; within = r.within; shafts = r.shafts }

  pub shaft_high : u + 1 < v
      → Reads bytes (read_shaft h.form h.depth x) shaft_most (record { store = s; words = words; at = at }) (record { store = deepened s x (u + 1); words = words; at = at'' }) (Err ReadFault.TooHigh)
  shaft_high i = from_column (column_high bytes (cassette_width h.form) (u + 1) x v (deepened s x (u + 1)) words at'' i)

  pub shaft_goes : v ≤ u + 1 → u + 1 ≤ most_rows → cassette_width h.form ≤ wide_width → {r : Work} {q : Result Unit ReadFault}
      → Reads bytes (read_rows (cassette_width h.form) x v) (cassette_width h.form * v) (record { store = raised (deepened s x (u + 1)) x v; words = words; at = at'' }) r q
      → Reads bytes (read_shaft h.form h.depth x) shaft_most (record { store = s; words = words; at = at }) r q
  shaft_goes i j k p = from_column (column_goes bytes (cassette_width h.form) (u + 1) x v (deepened s x (u + 1)) words at'' i j k p)

-- the shafts
module _ (bytes : List ℕ) (h : Head) where
  pub no_shafts : (w : Work) → Reads bytes (read_shafts h.form h.depth 0) (shaft_most * 0) w w (Ok tt)
  unfolding read_shafts
  no_shafts = loop_none bytes (read_shafts h.form h.depth) (read_shaft h.form h.depth) shaft_most refl (λ k. refl)

  module _ (x : ℕ) {w r : Work} (p : Reads bytes (read_shafts h.form h.depth x) (shaft_most * x) w r (Ok tt)) where
    pub shaft_more : {s : Work} {q : Result Unit ReadFault} → Reads bytes (read_shaft h.form h.depth x) shaft_most r s q
        → Reads bytes (read_shafts h.form h.depth (x + 1)) (shaft_most * (x + 1)) w s q
    unfolding read_shafts
    shaft_more = loop_more bytes (read_shafts h.form h.depth) (read_shaft h.form h.depth) shaft_most refl (λ k. refl) x p

    pub shaft_stops : (shafts : ℕ) → x < shafts → {s : Work} {e : ReadFault} → Reads bytes (read_shaft h.form h.depth x) shaft_most r s (Err e)
        → Reads bytes (read_shafts h.form h.depth shafts) (shaft_most * shafts) w s (Err e)
    unfolding read_shafts
    shaft_stops shafts h o = loop_stops bytes (read_shafts _ _) (read_shaft _ _) shaft_most refl (λ k. refl) x shafts h p o
