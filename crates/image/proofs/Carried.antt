-- The round trips, carried to the two functions by their contracts: what `write` left is read by `read` as the same store, and what `read` accepted is written by
-- `write`, in the form that it was read in, as the same bytes (document 02, 8/13).
use mathlib.Core.List.{List, ◌++◌}
use mathlib.Core.Path.{◌≡◌, sym, ap, ◌∙◌}
use Prim.Native.Nat.{ℕ, ◌≤◌, ◌<◌}
use native.Mathlib.Omega.{arith}
use lib.ListN.{length, get_or, take, drop}
use lib.Seq.{take_at}
use Rattle.std.specs.Prelude.{Result, Ok}
use Rattle.std.proofs.lemmas.Result.{MatchResult-at_ok}
use Rattle.store.specs.declared.Store.{Store}
use Rattle.image.specs.declared.Read.{Read}
use Rattle.image.specs.declared.WriteFault.{WriteFault}
use Rattle.image.specs.Image.{length_in, image_in, form_in}
use Rattle.image.specs.Numbers.{read_number}
use Rattle.image.specs.Promises.{ReadIs}
use Rattle.image.specs.Reading.{Reading, read_image}
use Rattle.image.specs.Writing.{write_refusal, WriteIs}
use Rattle.image.proofs.Answered.{counted}
use Rattle.image.proofs.Lengths.{length_written}
use Rattle.image.proofs.Nexts.{accepted}
use Rattle.image.proofs.Refused.{none_refuses, not_refused}
use Rattle.image.proofs.RoundTrip.{image_read, read_image_lem, own_length}

-- the first bytes are the image
image_first : (f : ℕ) (s : Store) (out next : List ℕ) (w : Result ℕ WriteFault) → WriteIs f s out next w → (n : ℕ) → w ≡ Ok n → (write_refusal f s (length out) ≡ 0) × (take n next ≡ image_in f s)
image_first f s out next w p n e =
    let a = MatchResult-at_ok _ _ n e p.answer in
    let b : next ≡ image_in f s ++ drop (length_in f s) out = rw a.0 at p.bytes in
    (a.0, rw (b, a.1.0) (take_at (image_in f s) (drop (length_in f s) out) (length_in f s) (length_written f s)))

-- a store that was written is read as that store
pub written_then_read : (f : ℕ) (s : Store) (out next : List ℕ) (w : Result ℕ WriteFault) → WriteIs f s out next w → (n : ℕ) (r : Read) → w ≡ Ok n
    → ReadIs (read_image (take n next)) r → (r.store ≡ s) × (read_number r.answer ≡ 0)
written_then_read f s out next w p n r z q =
    let i = image_first f s out next w p n z in
    let k = none_refuses f s out i.0 in
    let g : read_image (take n next) ≡ accepted s = ap read_image i.1 ∙ image_read f s k.sound k.known k.held in
    (q.store ∙ ap (λ (o : Reading). o.store) g, q.answer.has ∙ ap (λ (o : Reading). o.number) g)

-- an image that was accepted, written in its own form, is those bytes
pub read_then_written : (bytes out next : List ℕ) (r : Read) (w : Result ℕ WriteFault) → ((i : ℕ) → get_or bytes i 0 < 256) → ReadIs (read_image bytes) r
    → read_number r.answer ≡ 0 → length bytes ≤ length out → WriteIs (form_in bytes) r.store out next w
    → (n : ℕ) × (w ≡ Ok n) × (take n next ≡ bytes)
read_then_written bytes out next r w small q z room p =
    let g : read_image bytes ≡ accepted r.store = λ i. record { store = sym q.store i; number = (sym q.answer.has ∙ z) i } in
    let a = read_image_lem bytes r.store small g in
    let e : write_refusal (form_in bytes) r.store (length out) ≡ 0 = not_refused (form_in bytes) r.store out a.sound a.known a.held (omega (arith, own_length bytes r.store a)) in
    let c = counted w p.answer e in
    (length_in (form_in bytes) r.store, c, (image_first (form_in bytes) r.store out next w p _ c).1 ∙ a.is)
