-- The round trips (document 01, "The image"; document 02, 8/13). A store accepted, written and read is that store, in each form that can hold it. An accepted image
-- is the image of its store in the form that it names, which can hold it: so read, and written in that form, it is those bytes.
use borrow.Author.Tests.{lt-ltb, le-ltb, ltb-true, ltb-false, eqb-true}
use mathlib.Core.Bool.{Bool, true, false, cond, not}
use mathlib.Core.List.{List, [], ◌++◌, append-nil, append_assoc}
use mathlib.Core.Path.{◌≡◌, refl, sym, ap, ◌∙◌, subst}
use Prim.Native.Nat.{ℕ, suc, ◌+◌, ◌-◌, ◌*◌, ◌/◌, ◌%◌, ◌^◌, ◌≤◌, ◌<◌}
use native.Mathlib.Decide.{dec_lt}
use native.Mathlib.Omega.{arith}
use lib.ListN.{length, get_or, drop, length-append}
use lib.Pow.{pow_pos}
use lib.Seq.{take_all}
use Rattle.bits.specs.Fields.{bits, field, bits_of, byte_count}
use Rattle.bits.proofs.Widths.{length_bits, length_packed, field_bits, field_lt, bits_field}
use Rattle.bits.proofs.Bytes.{padded, bytes_agree, bytes_back, padded_agrees}
use Rattle.stacks.proofs.Deciding.{says_so}
use Rattle.marks.specs.Cassettes.{numbers}
use Rattle.marks.proofs.Faulted.{not_given, given_none, both_true}
use Rattle.marks.proofs.MarkLaws.{zeros}
use Rattle.lifts.specs.Lifting.{most_shafts, most_rows, slot_count, shown}
use Rattle.depths.specs.Depths.{depth_by}
use Rattle.store.specs.declared.Store.{Store}
use Rattle.store.specs.Slots.{depth, height, slot, cassettes, empty_store}
use Rattle.store.specs.Accept.{shafts_fault, Accepted}
use Rattle.store.specs.Sound.{Shaped, Sound}
use Rattle.store.proofs.Acceptance.{accepted_sound, accepted_walks}
use Rattle.store.proofs.InPlace.{shaped_in_place}
use Rattle.store.proofs.Verdicts.{by_shafts}
use Rattle.store.proofs.Walk.{shaft_none, not_too_high}
use Rattle.image.specs.Coding.{codable}
use Rattle.image.specs.Image.{form_width, frame_width, last_form, form_fault, own_depths, field_if, cassette_width, head_bits, shafts_bits, image_bits, length_in, image_in, holds, form_in}
use Rattle.image.specs.Reading.{Reading, no_depths, next, padding, end_fault, finish, read_body, read_depth, read_size, read_form, read_image}
use Rattle.image.proofs.Cut.{cut, cut_to, cut_all, low_zero, held_same}
use Rattle.image.proofs.Nexts.{accepted, unless_accepted, next_reads, took, if_reads, took_if}
use Rattle.image.proofs.Coding.{codable_number, zero_codable}
use Rattle.image.proofs.Forms.{Holds, holds_test, width_some, width_narrow}
use Rattle.image.proofs.Lengths.{length_written}
use Rattle.image.proofs.ReadBack.{shafts_back}
use Rattle.image.proofs.WriteBack.{Low, Settled, Shafts, shafts_read}

-- the cut of all shafts below m of a store that has nothing beyond is the store
whole : (s : Store) → Shaped s → cut s s.m (16 * s.m) ≡ s
unfolding shown depth_by
whole s p =
    held_same s.m
    (cut_to most_shafts s.depths p.depths_sized s.m most_shafts p.shafts (omega arith) (λ i a b. p.none_beyond i a)
    ∙ cut_all most_shafts s.depths p.depths_sized)
    (cut_to most_shafts s.heights p.heights_sized s.m most_shafts p.shafts (omega arith) (λ i a b. empty i a)
    ∙ cut_all most_shafts s.heights p.heights_sized)
    (cut_to slot_count s.slots p.slots_sized (16 * s.m) slot_count (omega (arith, p.shafts)) (omega arith) none ∙ cut_all slot_count s.slots p.slots_sized)
  where
    empty : (i : ℕ) → s.m ≤ i → height s i ≡ 0
    empty i a = omega (arith, p.heights i, p.none_beyond i a)

    none : (i : ℕ) → 16 * s.m ≤ i → i < slot_count → get_or s.slots i 0 ≡ 0
    none i a b =
        let e : 16 * (i / 16) + i % 16 ≡ i = omega arith in
        let z : height s (i / 16) ≡ 0 = empty (i / 16) (omega arith) in
        rw e at (p.none_above (i / 16) (i % 16) (omega arith) (omega arith) (omega arith))

-- zero bits to the end of the byte are padding
zeros_pad : (k : ℕ) → k < 8 → padding (bits k 0) ≡ true
unfolding padding
zeros_pad k h =
    let z : field (bits k 0) k ≡ 0 = rw append-nil at (field_bits k 0 [] (pow_pos k)) in
    simp (length_bits k 0, lt-ltb k 8 h, z)

finishes : (b : List ℕ) (s : Store) (l : List Bool) → padding l ≡ true → finish b s l ≡ accepted s
unfolding finish
finishes b s l p = simp p

-- the image of a store accepted, in a form that can hold it, is read as that store
module _ (f : ℕ) (s : Store) (e : Accepted s) (known : f ≤ last_form) (held : holds f s ≡ true) where
  p : Sound s
  p = accepted_sound s e

  h : Holds f s
  h = (holds_test f s).so held

  -- what the head gives for the depth − 1 of all shafts
  v : ℕ
  v = cond (not (own_depths f)) (depth s 0 - 1) 0

  common : own_depths f ≡ false → (x : ℕ) → x < s.m → depth s x ≡ v + 1
  unfolding v
  common z x i = rw z (h.equal z x i ∙ omega (arith, p.some_row 0 p.some_shaft))

  pub image_read : read_image (image_in f s) ≡ accepted s
  unfolding read_image image_in image_bits head_bits read_body cassettes v
  image_read =
      let k = byte_count (length (image_bits f s)) * 8 - length (image_bits f s) in
      let pad = bits k 0 in
      let shafts = shafts_bits f s s.m in
      let deep = field_if (not (own_depths f)) frame_width (depth s 0 - 1) in
      let m : s.m - 1 + 1 ≡ s.m = omega (arith, p.some_shaft) in
      ap (λ (l : List Bool). next form_width l read_form) (padded (image_bits f s) k (omega arith) ∙ simp append_assoc)
      ∙ next_reads form_width f (bits frame_width (s.m - 1) ++ (deep ++ (shafts ++ pad))) read_form (omega arith)
      ∙ rw (le-ltb last_form f known) refl
      ∙ next_reads frame_width (s.m - 1) (deep ++ (shafts ++ pad)) (read_depth f) (omega (arith, p.shaped.shafts))
      ∙ if_reads (not (own_depths f)) frame_width 0 (depth s 0 - 1) (shafts ++ pad) (λ u r. read_body f u (empty_store (s.m - 1 + 1) no_depths) r) (omega (arith, p.shaped.rows 0))
      ∙ ap (λ (n : ℕ). read_body f v (empty_store n no_depths) (shafts ++ pad)) m
      ∙ shafts_back s p.shaped f v h.numbered p.some_row common s.m pad finish (omega arith) (accepted_walks s e)
      ∙ finishes (cassettes s) (cut s s.m (16 * s.m)) pad (zeros_pad k (omega arith))
      ∙ ap accepted (whole s p.shaped)

-- what the end of a reading gives back
finish_settles : (w : ℕ) (s : Store) (m : ℕ) (b : List ℕ) (t : Store) (l : List Bool) → Low w m t → finish b t l ≡ accepted s → Settled s m t
unfolding finish
finish_settles w s m b t l low e =
    let q : t ≡ s = ap (λ (r : Reading). r.store) (unless_accepted (end_fault l) (accepted t) s e).1 in
    rw (← q) (record {
      same = sym (held_same t.m low.depths low.heights low.slots);
      depths_sized = low.depths_sized;
      heights_sized = low.heights_sized;
      slots_sized = low.slots_sized;
    })

-- padding is zero bits
pads : (l : List Bool) → padding l ≡ true → (length l < 8) × (l ≡ bits (length l) 0)
unfolding padding
pads l e =
    let p = both_true _ _ e in
    let n = length l in
    (ltb-true n 8 p.0, cc (take_all n l (omega arith), bits_field n l (omega arith), eqb-true (field l n) 0 p.1))

-- what was read after the head of form f, whose depth − 1 is v: the store s of m shafts, which has no fault
record Body (f v : ℕ) (s : Store) (m : ℕ) (l : List Bool) : Type 0 where
  shafts : s.m ≡ m
  read : Shafts f v s (empty_store m no_depths) m l finish
  pad : padding read.left ≡ true
  sound : Accepted s
  codes : (i : ℕ) → codable (cassette_width f) (get_or s.slots i 0) ≡ true

module _ (s : Store) (m : ℕ) (few : m ≤ most_shafts) (same : s.m ≡ m) (w : ℕ) (narrow : 2 ^ w ≤ numbers) (low : Low w m s)
    (above : (y k : ℕ) → y < m → height s y ≤ k → k < most_rows → slot s y (suc k) ≡ 0) (clean : shafts_fault s m ≡ 0) where
  low_shaped : Shaped s
  unfolding shown depth_by
  low_shaped = record {
    depths_sized = low.depths_sized;
    heights_sized = low.heights_sized;
    slots_sized = low.slots_sized;
    numbered = λ i. codable_number w (get_or s.slots i 0) narrow (low.codes i);
    shafts = omega arith;
    rows = low.rows;
    heights = λ x. elim (dec_lt x m) [
      | yes h ↦ (not_too_high s x (shaft_none s x m clean h)).0
      | no h ↦ omega (arith, low_zero most_shafts s.heights m x low.heights_sized few low.heights (omega arith))
    ];
    none_beyond = λ x h. low_zero most_shafts s.depths m x low.depths_sized few low.depths (omega arith);
    none_above = λ x k a b h. elim (dec_lt x m) [
      | yes g ↦ above x k g h b
      | no g ↦ low_zero slot_count s.slots (16 * m) (16 * x + k) low.slots_sized (omega arith) low.slots (omega arith)
    ];
  }

body_read : (f v : ℕ) → v < most_rows → (s : Store) (m : ℕ) (l : List Bool) → 0 < m → m ≤ most_shafts → read_body f v (empty_store m no_depths) l ≡ accepted s
    → Body f v s m l
unfolding read_body depth_by
body_read f v rows s m l a few e =
    let low : Low (cassette_width f) 0 (empty_store m no_depths) = record {
      depths_sized = refl;
      heights_sized = refl;
      slots_sized = refl;
      codes = λ i. rw (zeros slot_count i) (zero_codable (cassette_width f) (width_some f));
      depths = refl;
      heights = refl;
      slots = refl;
      rows = λ x. omega (arith, zeros most_shafts x);
    } in
    let p = shafts_read f v rows s (empty_store m no_depths) m l finish few low (λ b t r. finish_settles (cassette_width f) s m b t r) e in
    let g = unless_accepted (end_fault p.left) (accepted (cut s m (16 * m))) s p.after in
    let all = subst (Low (cassette_width f) m) (ap (λ (r : Reading). r.store) g.1) p.low in
    let is : s.m ≡ m = ap (λ (u : Store). u.m) (sym p.start) in
    record {
      shafts = is;
      read = p;
      pad = not_given (padding p.left) 6 g.0;
      sound = by_shafts s (shaped_in_place s (low_shaped s m few is (cassette_width f) (width_narrow f) all p.above p.clean) (omega arith) (λ x i. p.deep x (omega arith)))
          ∙ ap (shafts_fault s) is ∙ p.clean;
      codes = all.codes;
    }

-- the fields before the shafts
head_begins : (f : ℕ) (s : Store) (m v : ℕ) (l k r q left : List Bool) → s.m ≡ m + 1 → (own_depths f ≡ false → depth s 0 ≡ v + 1) → l ≡ bits form_width f ++ k
    → k ≡ bits frame_width m ++ r → r ≡ field_if (not (own_depths f)) frame_width v ++ q → q ≡ shafts_bits f s (m + 1) ++ left → l ≡ image_bits f s ++ left
unfolding image_bits head_bits
head_begins f s m v l k r q left em common el ek er eq =
    let fm : m ≡ s.m - 1 = omega arith in
    rw (el, ek, er, eq, ← em, fm, deep (own_depths f) common) (simp append_assoc)
  where
    deep : (own : Bool) → (own ≡ false → depth s 0 ≡ v + 1) → field_if (not own) frame_width v ≡ field_if (not own) frame_width (depth s 0 - 1)
    deep true h = refl
    deep false h = let e : v ≡ depth s 0 - 1 = omega (arith, h refl) in ap (bits frame_width) e

-- bytes that begin with an image, and end in padding, are that image
image_bytes : (f : ℕ) (s : Store) (bytes : List ℕ) (left : List Bool) → ((i : ℕ) → get_or bytes i 0 < 256) → bits_of bytes ≡ image_bits f s ++ left → padding left ≡ true → image_in f s ≡ bytes
unfolding image_in length_in bits_of
image_bytes f s bytes left small e p =
    let q = pads left p in
    let n = length bytes in
    let g : byte_count (length (image_bits f s)) ≡ n = omega (arith, length-append (image_bits f s) left, ap length e, length_packed 8 bytes) in
    let b = bytes_agree n (image_bits f s) (image_bits f s ++ bits (length left) 0) (λ i. sym (padded_agrees (image_bits f s) (length left) i)) in
    cc (g, b, q.1, e, bytes_back bytes small)

-- Bytes are an image of the store s, in the form that they name.
pub record ImageOf (bytes : List ℕ) (s : Store) : Type 0 where
  pub sound : Accepted s
  pub known : form_in bytes ≤ last_form
  pub held : holds (form_in bytes) s ≡ true
  pub is : image_in (form_in bytes) s ≡ bytes

-- an accepted image is one of the store that it is read as
pub read_image_lem : (bytes : List ℕ) (s : Store) → ((i : ℕ) → get_or bytes i 0 < 256) → read_image bytes ≡ accepted s → ImageOf bytes s
unfolding read_image form_in
read_image_lem bytes s small e =
    let l = drop form_width (bits_of bytes) in
    let f = took form_width (bits_of bytes) read_form s e in
    let u = unless_accepted (form_fault f.v) (read_size f.v l) s f.after in
    let g = took frame_width l (read_depth f.v) s u.1 in
    let h = took_if (not (own_depths f.v)) frame_width 0 (drop frame_width l) (λ v r. read_body f.v v (empty_store (g.v + 1) no_depths) r) s (pow_pos frame_width) g.after in
    let m : g.v < 16 = rw g.is.value (field_lt _ frame_width) in
    let b = body_read f.v h.u h.small s (g.v + 1) h.left (omega arith) (omega arith) h.after in
    named f.v f.is.value b.sound (ltb-false last_form f.v (given_none _ 0 u.0))
    (record { equal = λ z x i. b.read.common z x (omega (arith, b.shafts)) ∙ sym (b.read.common z 0 (omega arith)); numbered = λ i h. b.codes i })
    (image_bytes f.v s bytes b.read.left small
    (head_begins f.v s g.v h.u _ _ _ _ b.read.left b.shafts (λ z. b.read.common z 0 (omega arith)) f.is.begins g.is.begins h.begins b.read.begins)
    b.pad)
  where
    named : (f : ℕ) → f ≡ form_in bytes → Accepted s → f ≤ last_form → Holds f s → image_in f s ≡ bytes → ImageOf bytes s
    named f e a k h is = record {
      sound = a;
      known = omega arith;
      held = ap (λ (k : ℕ). holds k s) (sym e) ∙ says_so (holds f s) (holds_test f s) h;
      is = ap (λ (k : ℕ). image_in k s) (sym e) ∙ is;
    }

-- an image is as long as that of its store in the form that it names
pub own_length : (bytes : List ℕ) (s : Store) → ImageOf bytes s → length_in (form_in bytes) s ≡ length bytes
own_length bytes s i = sym (length_written (form_in bytes) s) ∙ ap length i.is

-- the form that an image names is its form
pub image_form : (f : ℕ) (s : Store) → f ≤ last_form → form_in (image_in f s) ≡ f
unfolding form_in image_in image_bits head_bits
image_form f s h =
    let k = byte_count (length (image_bits f s)) * 8 - length (image_bits f s) in
    let rest = bits frame_width (s.m - 1) ++ (field_if (not (own_depths f)) frame_width (depth s 0 - 1) ++ (shafts_bits f s s.m ++ bits k 0)) in
    let e : image_bits f s ++ bits k 0 ≡ bits form_width f ++ rest = simp append_assoc in
    ap (λ (l : List Bool). field l form_width) (padded (image_bits f s) k (omega arith) ∙ e) ∙ field_bits form_width f rest (omega arith)

-- no two images in one form stand for one store
pub one_image : (a b : List ℕ) (s : Store) → ImageOf a s → ImageOf b s → form_in a ≡ form_in b → a ≡ b
one_image a b s p q e = sym p.is ∙ ap (λ (f : ℕ). image_in f s) e ∙ q.is
