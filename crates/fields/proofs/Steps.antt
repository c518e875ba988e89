-- Fields as the code reads them: one that is there, of any width; and the head, field by field.
use borrow.Author.Tests.{lt-ltb, le-ltb}
use mathlib.Core.Bool.{Bool, cond, not}
use mathlib.Core.List.{List}
use mathlib.Core.Path.{◌≡◌, refl, ap, ◌∙◌}
use Prim.Native.Nat.{ℕ, ◌+◌, ◌≤◌, ◌<◌}
use native.Mathlib.Omega.{arith}
use lib.ListN.{drop}
use lib.Seq.{drop-drop}
use Rattle.std.specs.Prelude.{Option, Some, Ok, Err}
use Rattle.bits.specs.Fields.{field, bits_of, next_field}
use Rattle.bits.proofs.Places.{there}
use Rattle.bits.proofs.Widths.{field_lt}
use Rattle.store.specs.Slots.{empty_store}
use Rattle.image.specs.declared.ReadFault.{ReadFault}
use Rattle.image.specs.Image.{form_width, frame_width, last_form, own_depths, form_in}
use Rattle.image.specs.Numbers.{read_fault_number}
use Rattle.image.specs.Reading.{no_depths, refused, from_field, read_body, read_depth, read_size, read_form, read_image}
use Rattle.fields.specs.Steps.{left, FieldIs, FieldIfIs, HeadIs}

pub field_found : (bytes : List ℕ) (n at v : ℕ) → next_field (left bytes at) n ≡ Some v → FieldIs bytes n at (at + n) (Ok v)
field_found bytes n at v f = record {
  found = record { value = (there _ n v f).value; place = refl };
  same = λ c. ap (λ (g : Option ℕ). from_field g (λ u. c u (drop n (left bytes at)))) f ∙ ap (c v) (drop-drop n at (bits_of bytes));
  small = rw (there _ n v f).value (field_lt _ n);
  within = omega arith;
}

-- "Number 1 covers forms above 2" (document 02, 8/13)
form_refused : (v : ℕ) (l : List Bool) → last_form < v → read_form v l ≡ refused 1
form_refused v l h = simp (lt-ltb last_form v h)

form_taken : (v : ℕ) (l : List Bool) → v ≤ last_form → read_form v l ≡ read_size v l
form_taken v l h = simp (le-ltb last_form v h)

-- the head, as far as its fields were read: a fault that one of them meets ends the reading
module _ (bytes : List ℕ) where
  head_fault : (f : ReadFault) → read_image bytes ≡ refused (read_fault_number f) → HeadIs bytes (Err f)
  head_fault f e = record { found = tt; same = e; few = tt }

  pub form_missing : {at : ℕ} (f : ReadFault) → FieldIs bytes form_width 0 at (Err f) → HeadIs bytes (Err f)
  unfolding read_image
  form_missing f p = head_fault f (p.same read_form)

  module _ {form at : ℕ} (p : FieldIs bytes form_width 0 at (Ok form)) where
    pub form_wrong : last_form < form → HeadIs bytes (Err ReadFault.WrongForm)
    unfolding read_image
    form_wrong h = head_fault _ (p.same read_form ∙ form_refused form _ h)

    module _ (known : form ≤ last_form) where
      form_read : read_image bytes ≡ read_size form (left bytes at)
      unfolding read_image
      form_read = p.same read_form ∙ form_taken form _ known

      pub size_missing : {at' : ℕ} (f : ReadFault) → FieldIs bytes frame_width at at' (Err f) → HeadIs bytes (Err f)
      size_missing f q = head_fault f (form_read ∙ q.same (read_depth form))

      module _ {size at' : ℕ} (q : FieldIs bytes frame_width at at' (Ok size)) where
        size_read : read_image bytes ≡ read_depth form size (left bytes at')
        size_read = form_read ∙ q.same (read_depth form)

        pub depth_missing : {at'' : ℕ} (f : ReadFault) → FieldIfIs bytes (not (own_depths form)) frame_width 0 at' at'' (Err f) → HeadIs bytes (Err f)
        depth_missing f o = head_fault f (size_read ∙ o.same (λ v l. read_body form v (empty_store (size + 1) no_depths) l))

        pub head_read : {depth at'' : ℕ} → FieldIfIs bytes (not (own_depths form)) frame_width 0 at' at'' (Ok depth)
            → HeadIs bytes (Ok (record { form = form; m = size + 1; depth = depth; at = at'' }))
        unfolding form_in
        head_read o =
            let first : at ≡ form_width = omega (arith, p.found.place) in
            let second : at' ≡ form_width + frame_width = omega (arith, q.found.place) in
            record {
              found = record {
                form = p.found.value;
                shafts = ap (λ (v : ℕ). v + 1) (q.found.value ∙ ap (λ (i : ℕ). field (left bytes i) frame_width) first);
                depth = o.found.value ∙ ap (λ (i : ℕ). cond (not (own_depths form)) (field (left bytes i) frame_width) 0) second;
              };
              same = size_read ∙ o.same (λ v l. read_body form v (empty_store (size + 1) no_depths) l);
              few = record { shafts = omega (arith, q.small); rows = o.small; within = omega (arith, p.within, q.within, o.within) };
            }
