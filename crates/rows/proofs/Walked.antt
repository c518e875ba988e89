-- The walk over the rows of a shaft as the code does it, cassette by cassette: what is known so far, and the answer at each end.
use mathlib.Core.List.{List, ◌++◌, append-nil}
use mathlib.Core.Path.{◌≡◌, refl, sym, subst, ◌∙◌}
use Prim.Native.Nat.{ℕ, suc, ◌<◌}
use native.Mathlib.Omega.{arith}
use Rattle.std.specs.Prelude.{Ok, Err}
use Rattle.marks.specs.declared.CassetteFault.{CassetteFault}
use Rattle.marks.specs.declared.CassetteFault.TheVariants.{NoCassette, Twice}
use Rattle.marks.specs.Marking.{Marked}
use Rattle.marks.specs.Taking.{cassette_number, TakenIs}
use Rattle.lifts.specs.Lifting.{shown}
use Rattle.rows.specs.Rows.{rows_up, rows_fault, RowsAre}
use Rattle.rows.proofs.Walk.{row_after, row_met, row_passed}

-- Rows 1 to k of shaft x were taken without a fault.
pub record RowsSoFar (words slots : List ℕ) (x k : ℕ) (words' : List ℕ) : Type 0 where
  pub none : (before : List ℕ) → Marked words before → rows_fault before slots x k ≡ 0
  pub marks : (before : List ℕ) → Marked words before → Marked words' (before ++ rows_up slots x k)

pub no_rows : (words slots : List ℕ) (x : ℕ) → RowsSoFar words slots x 0 words
unfolding rows_fault rows_up
no_rows words slots x = record { none = λ before m. refl; marks = λ before m. subst (Marked words) (sym (append-nil before)) m }

cassette_some : (f : CassetteFault) → cassette_number f ≡ 0 → ⊥
cassette_some NoCassette e = omega arith
cassette_some Twice e = omega arith

module _ {words slots : List ℕ} {x k : ℕ} {words' words'' : List ℕ} (p : RowsSoFar words slots x k words') where
  pub row_taken : TakenIs words' (shown slots x (suc k)) words'' (Ok tt) → RowsSoFar words slots x (suc k) words''
  row_taken t = record {
    none = λ before m. row_passed before slots x k (p.none before m) (sym (t.fault _ (p.marks before m)));
    marks = λ before m. subst (Marked words'') (row_after before slots x k) (t.marks _ (p.marks before m));
  }

  pub row_refused : (f : CassetteFault) (rows : ℕ) → TakenIs words' (shown slots x (suc k)) words'' (Err f) → k < rows → RowsAre words slots x rows words'' (Err f)
  row_refused f rows t h = record {
    fault = λ before m. sym (row_met before slots x k rows (cassette_number f) (p.none before m) (sym (t.fault _ (p.marks before m))) (cassette_some f) h);
    marks = λ before m z. absurd (cc);
    refused = λ _ _. record {
      below = k;
      few = h;
      none = p.none;
      met = λ before m e. cassette_some f (t.fault _ (p.marks before m) ∙ e);
      marks = λ before m. rw t.words_are (p.marks before m);
    };
  }

pub rows_taken : {words slots : List ℕ} {x rows : ℕ} {words' : List ℕ} → RowsSoFar words slots x rows words' → RowsAre words slots x rows words' (Ok tt)
rows_taken p = record { fault = λ before m. sym (p.none before m); marks = λ before m e. p.marks before m; refused = λ f e. absurd (cc) }
