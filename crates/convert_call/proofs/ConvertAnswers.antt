-- The answers of a conversion: a fault of the image, or what writing its store gave.
use mathlib.Core.List.{List}
use mathlib.Core.Path.{◌≡◌, sym, ap, ap₂, ◌∙◌}
use Prim.Native.Nat.{ℕ}
use native.Mathlib.Omega.{arith}
use lib.ListN.{length}
use Rattle.marks.proofs.Faulted.{first_stays, first_skips}
use Rattle.store.specs.declared.Store.{Store}
use Rattle.std.specs.Prelude.{Result, Ok, Err}
use Rattle.image.specs.declared.WriteFault.{WriteFault}
use Rattle.image.specs.Numbers.{write_number}
use Rattle.image.specs.Writing.{write_refusal, count_after, WriteIs}
use Rattle.image.proofs.Answered.{write_one}
use Rattle.image.proofs.Refused.{none_written}
use Rattle.calls.specs.Shared.{answer_of, count_in, RefusedCall, store_in, read_fault}
use Rattle.convert_call.specs.ConvertCall.{convert_fault, ConvertCallIs}

-- the count and the number of what writing gave
count_told : (f : ℕ) (s : Store) (came : List ℕ) {out : List ℕ} (w : Result ℕ WriteFault) → WriteIs f s came out w → count_in w ≡ count_after (write_refusal f s (length came)) f s
count_told f s came (Ok n) p = p.answer.1.0 ∙ ap (λ (k : ℕ). count_after k f s) (sym p.answer.0)
count_told f s came (Err e) p = (none_written (write_refusal f s (length came)) f s came (λ z. write_one e (p.answer.has ∙ z))).0

number_told : (f : ℕ) (s : Store) (came : List ℕ) {out : List ℕ} (w : Result ℕ WriteFault) → WriteIs f s came out w → write_number w ≡ write_refusal f s (length came)
number_told f s came (Ok n) p = sym p.answer.0
number_told f s came (Err e) p = p.answer.has

module _ {a : List ℕ} {f : ℕ} {came out : List ℕ} where
  pub convert_refused : {k r : ℕ} → RefusedCall k came out r → k ≡ read_fault a → (k ≡ 0 → ⊥) → ConvertCallIs a f came r out
  convert_refused {k} q e n =
      let z : convert_fault a f (length came) ≡ k = first_stays (read_fault a) (write_refusal f (store_in a) (length came)) (λ i. n (e ∙ i)) ∙ sym e in
      let p = none_written k f (store_in a) came n in
      record { answer = rw z (omega (arith, q.number, p.0)); bytes = rw z (q.bytes ∙ p.1) }

  pub convert_answered : {s : Store} {w : Result ℕ WriteFault} {r : ℕ} → s ≡ store_in a → read_fault a ≡ 0 → WriteIs f s came out w → r ≡ answer_of (count_in w) (write_number w)
      → ConvertCallIs a f came r out
  convert_answered {w = w} e z p j =
      let k : convert_fault a f (length came) ≡ write_refusal f (store_in a) (length came) = first_skips (read_fault a) _ z in
      let q : WriteIs f (store_in a) came out w = rw (← e) p in
      record { answer = rw k (j ∙ ap₂ answer_of (count_told f (store_in a) came w q) (number_told f (store_in a) came w q)); bytes = rw k q.bytes }
