-- `form_in` meets its contract: only no bytes at all have no first field.
use mathlib.Core.List.{List, [], ◌∷◌}
use mathlib.Core.Path.{◌≡◌, refl, ◌∙◌}
use Prim.Native.Nat.{ℕ}
use native.Mathlib.Omega.{arith}
use Rattle.std.specs.Prelude.{unwrap_or}
use Rattle.bits.specs.Fields.{field, packed, bits_of, next_field}
use Rattle.bits.proofs.Places.{field_there}
use Rattle.bits.proofs.Widths.{field_lt}
use Rattle.image.specs.Image.{form_width, form_in}
use Rattle.fields.proofs.form_in.Goals as goal

-- the first field, or 0, is the form
first : (bytes : List ℕ) → unwrap_or (next_field (bits_of bytes) form_width) 0 ≡ form_in bytes
unfolding form_in bits_of packed field next_field
first [] = refl
first (b ∷ bs) = rw (← field_there (b ∷ bs) 0 form_width (omega arith))

is : (c : goal.After-unwrap_or) → c.unwrap_or.result ≡ form_in c.args.image.now
is c = c.unwrap_or.ensures ∙ rw c.read_field.ensures (first c.args.image.now)

pub overflow_cast-result : goal.overflow_cast-result
unfolding form_in
overflow_cast-result c = omega (arith, is c, field_lt (bits_of c.args.image.now) form_width)

pub returns : goal.returns
returns c = is c
