-- The walk over the shafts as the code does it: what is known so far, and the answer at each end.
use mathlib.Core.List.{List, []}
use mathlib.Core.Path.{◌≡◌, refl, sym, ◌∙◌, subst}
use Prim.Native.Nat.{ℕ, suc, ◌≤◌, ◌<◌}
use Rattle.std.specs.Prelude.{Ok, Err}
use Rattle.marks.specs.declared.CassetteFault.{CassetteFault}
use Rattle.marks.specs.declared.CassetteFault.TheVariants.{NoCassette, Twice}
use Rattle.marks.specs.Taking.{cassette_number}
use Rattle.marks.specs.Marking.{no_marks, Marked}
use Rattle.marks.proofs.Takes.{nothing_marked}
use Rattle.store.specs.declared.Store.{Store}
use Rattle.store.specs.declared.Fault.{Fault}
use Rattle.rows.specs.Rows.{RowsAre}
use Rattle.store.specs.Accept.{shaft_fault, shafts_fault}
use Rattle.store.specs.Checking.{ShaftsAre}
use Rattle.store.specs.Numbers.{fault_number, fault_of}
use Rattle.store.specs.Slots.{depth, height, cassettes_below, cassettes}
use Rattle.store.proofs.Checks.{fault_one}
use Rattle.store.proofs.Numbered.{only_fault}
use Rattle.store.proofs.Walk.{shaft_met, shaft_passed, too_high, by_rows}

-- The shafts below x were taken without a fault.
pub record ShaftsSoFar (s : Store) (x : ℕ) (words : List ℕ) : Type 0 where
  pub none : shafts_fault s x ≡ 0
  pub marks : Marked words (cassettes_below s x)

pub no_shafts : (s : Store) {words : List ℕ} → words ≡ no_marks → ShaftsSoFar s 0 words
unfolding shafts_fault cassettes_below
no_shafts s e = record { none = refl; marks = subst (λ (w : List ℕ). Marked w []) (sym e) nothing_marked }

same_number : (f : CassetteFault) → cassette_number f ≡ fault_number (fault_of f)
same_number NoCassette = refl
same_number Twice = refl

module _ {s : Store} {x : ℕ} {words : List ℕ} (p : ShaftsSoFar s x words) where
  faulted : (f : Fault) → x < s.m → shaft_fault s x ≡ fault_number f → ShaftsAre s (Err f)
  faulted f h e = only_fault (sym (shaft_met s x s.m (fault_number f) p.none e (fault_one f) h))

  pub shaft_high : x < s.m → depth s x < height s x → ShaftsAre s (Err Fault.TooHigh)
  shaft_high h i = faulted Fault.TooHigh h (too_high s x i)

  pub shaft_refused : (f : CassetteFault) → x < s.m → height s x ≤ depth s x → {words' : List ℕ} → RowsAre words s.slots x (height s x) words' (Err f) → ShaftsAre s (Err (fault_of f))
  shaft_refused f h i q = faulted (fault_of f) h (by_rows s x i ∙ sym (q.fault _ p.marks) ∙ same_number f)

  pub shaft_taken : height s x ≤ depth s x → {words' : List ℕ} → RowsAre words s.slots x (height s x) words' (Ok tt) → ShaftsSoFar s (suc x) words'
  unfolding cassettes_below
  shaft_taken i q = record {
    none = shaft_passed s x p.none (by_rows s x i ∙ sym (q.fault _ p.marks));
    marks = q.marks _ p.marks refl;
  }

pub shafts_taken : {s : Store} {words : List ℕ} → ShaftsSoFar s s.m words → ShaftsAre s (Ok words)
unfolding cassettes
shafts_taken p = (p.none, (p.marks, fault_one))
