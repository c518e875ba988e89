-- What a conversion gives: an image converted to its own form "gives its own bytes" (document 02, 8/13), and what was converted to another form and back too.
use mathlib.Core.List.{List, ◌++◌}
use mathlib.Core.Path.{◌≡◌, ap, ap₂, ◌∙◌}
use Prim.Native.Nat.{ℕ, ◌≤◌, ◌<◌}
use native.Mathlib.Omega.{arith}
use lib.ListN.{length, get_or, drop}
use Rattle.marks.proofs.Faulted.{first_none, first_skips}
use Rattle.image.specs.Image.{image_in, form_in}
use Rattle.image.specs.Reading.{read_image}
use Rattle.image.specs.Writing.{bytes_after, count_after}
use Rattle.image.proofs.Nexts.{accepted}
use Rattle.image.proofs.Refused.{none_refuses, not_refused}
use Rattle.image.proofs.RoundTrip.{image_read, image_form, own_length}
use Rattle.calls.specs.Shared.{answer_of, store_in, read_fault}
use Rattle.calls.proofs.Readings.{own_image}
use Rattle.convert_call.specs.ConvertCall.{convert_fault, ConvertCallIs}

module _ (a came : List ℕ) (small : (i : ℕ) → get_or a i 0 < 256) (read : read_fault a ≡ 0) where
  -- in its own form, with room for as many bytes
  pub converted_own : {out : List ℕ} {r : ℕ} → length a ≤ length came → ConvertCallIs a (form_in a) came r out → (r ≡ answer_of (length a) 0) × (out ≡ a ++ drop (length a) came)
  converted_own room p =
      let i = own_image a small read in
      let n = own_length a (store_in a) i in
      let z : convert_fault a (form_in a) (length came) ≡ 0
      = first_skips (read_fault a) _ read ∙ not_refused (form_in a) (store_in a) came i.sound i.known i.held (omega arith) in (
        p.answer ∙ ap (λ (k : ℕ). answer_of (count_after k (form_in a) (store_in a)) k) z ∙ ap (λ (k : ℕ). answer_of k 0) n,
        p.bytes ∙ ap (λ (k : ℕ). bytes_after k (form_in a) (store_in a) came) z ∙ ap₂ (λ (b : List ℕ) (k : ℕ). b ++ drop k came) i.is n,
      )

  -- what was converted stands for the same store, in the form named, and in the form that it came from it is the image given
  pub converted_back : (f : ℕ) → convert_fault a f (length came) ≡ 0
      → (read_image (image_in f (store_in a)) ≡ accepted (store_in a)) × (form_in (image_in f (store_in a)) ≡ f) × (image_in (form_in a) (store_in (image_in f (store_in a))) ≡ a)
  converted_back f e =
      let q = none_refuses f (store_in a) came (first_none (read_fault a) _ e).1 in
      let back = image_read f (store_in a) q.sound q.known q.held in
      (back, image_form f (store_in a) q.known, ap (λ o. image_in (form_in a) o.store) back ∙ (own_image a small read).is)
