-- Writing, as the code does it: what the lent bytes hold at the end.
use mathlib.Core.List.{List, [], ◌++◌}
use mathlib.Core.Path.{◌≡◌, sym, ◌∙◌}
use Prim.Native.Nat.{ℕ, ◌≤◌, ◌<◌}
use native.Mathlib.Omega.{arith}
use lib.ListN.{length, length-append, take-append-drop}
use Rattle.pens.specs.declared.Pen.{Pen}
use Rattle.bits.specs.Fields.{bits}
use Rattle.pens.specs.Pens.{no_bits, Pushes, Pads}
use Rattle.bits.proofs.Bytes.{bytes_agree, padded_agrees}
use Rattle.pens.proofs.Pushed.{pushes_then, holds_none, stored_bytes}
use Rattle.bits.proofs.Widths.{length_bits}
use Rattle.std.specs.Prelude.{Ok, Err}
use Rattle.lifts.specs.Lifting.{most_rows}
use Rattle.store.specs.declared.Store.{Store}
use Rattle.store.specs.Slots.{depth}
use Rattle.store.specs.Accept.{Accepted}
use Rattle.store.proofs.Acceptance.{accepted_sound}
use Rattle.image.specs.declared.WriteFault.{WriteFault}
use Rattle.image.specs.Image.{head_bits, shafts_bits, image_bits, length_in, image_in}
use Rattle.image.specs.Numbers.{write_fault_number}
use Rattle.image.specs.Writing.{write_refusal, WriteIs}
use Rattle.image.proofs.Answered.{only_write, write_one}
use Rattle.image.proofs.Refused.{Writable, not_refused, none_written}
use Rattle.image_parts.specs.Promises.{CanWriteBelow}

-- what an accepted store says of its parts
module _ (s : Store) (e : Accepted s) where
  pub can_write : CanWriteBelow s.depths s.heights s.m
  can_write x h =
      let p = accepted_sound s e in
      let q = p.shaped in
      record { below = omega (arith, q.shafts); some = p.some_row x h; most = q.rows x; rows = omega (arith, q.heights x, q.rows x) }

  pub has_frame : (0 < s.m) × (0 < depth s 0) × (depth s 0 ≤ most_rows)
  has_frame = let p = accepted_sound s e in (p.some_shaft, p.some_row 0 p.some_shaft, p.shaped.rows 0)

-- a refusal with the number that is due
pub refused_write : (f : ℕ) (s : Store) (out : List ℕ) (e : WriteFault) → write_refusal f s (length out) ≡ write_fault_number e → WriteIs f s out out (Err e)
refused_write f s out e q =
    record { answer = only_write (sym q); bytes = (none_written (write_refusal f s (length out)) f s out (λ z. write_one e (sym q ∙ z))).1 }

-- a store that is not refused: the fields in the form named, and zero bits to the end of the byte
pub image_written : (f : ℕ) (s : Store) (out : List ℕ) → Writable f s out → (a b next : List ℕ) (p q r : Pen) → Pushes (head_bits f s) out a no_bits p → Pushes (shafts_bits f s s.m) a b p q
    → Pads b next q r → WriteIs f s out next (Ok r.at)
unfolding image_bits length_in image_in
image_written f s out can a b next p q r g h k =
    let none = not_refused f s out can.sound can.known can.held can.room in
    let all = pushes_then (pushes_then g h) k.pushes in
    let held = all.holds out [] (holds_none out) in
    let l = image_bits f s ++ bits k.zeros 0 in
    let z = length_bits k.zeros 0 in
    let n = length-append (image_bits f s) (bits k.zeros 0) in
    let count : r.at ≡ length_in f s = omega (arith, all.count, k.whole, k.few) in
    let first = stored_bytes out next r l held k.whole (omega (arith, held.same_length)) in
    let same = bytes_agree (length_in f s) l (image_bits f s) (padded_agrees (image_bits f s) k.zeros) in
    record {
      answer = (none, (count, write_one));
      bytes = rw none (cc (take-append-drop r.at next, first, count, same, held.kept));
    }
