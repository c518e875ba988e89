-- Every list of bytes gives one of the numbers 0 to 5 and 7 (document 01, "Refused because of the input"; request 3/13).
use mathlib.Core.Bool.{Bool, true, false, not}
use mathlib.Core.List.{List, [], ◌∷◌, ◌++◌}
use mathlib.Core.Logic.{inl, inr}
use mathlib.Core.Path.{refl}
use Prim.Native.Nat.{ℕ, zero, suc, ◌+◌}
use native.Mathlib.Omega.{arith}
use lib.Dec.{ltb}
use Rattle.std.specs.Prelude.{Option, Some, None}
use Rattle.bits.specs.Fields.{bits_of, next_field}
use Rattle.marks.proofs.Faulted.{given_either}
use Rattle.marks.proofs.Takes.{cassette_either}
use Rattle.store.specs.declared.Store.{Store}
use Rattle.store.specs.Slots.{empty_store}
use Rattle.image.specs.Coding.{meant}
use Rattle.image.specs.Image.{form_width, frame_width, height_width, cassette_width, last_form, own_depths}
use Rattle.image.specs.Numbers.{ReadingGives}
use Rattle.image.specs.Reading.{Reading, no_depths, unless, Rest, from_field, next, next_if, deepened, raised, placed, read_row, read_rows, read_shaft, read_shafts, padding, finish, read_image}

record Gives (o : Reading) : Type 0 where
  number : ReadingGives o.number

unless_gives : (k : ℕ) (o : Reading) → ReadingGives k → Gives o → Gives (unless k o)
unless_gives zero o p q = q
unless_gives (suc k) o p q = record { number = p }

field_gives : (f : Option ℕ) (c : ℕ → Reading) → ((v : ℕ) → Gives (c v)) → Gives (from_field f c)
field_gives (Some v) c h = h v
field_gives None c h = record { number = inl (omega arith) }

next_gives : (w : ℕ) (l : List Bool) (c : ℕ → List Bool → Reading) → ((v : ℕ) (r : List Bool) → Gives (c v r)) → Gives (next w l c)
next_gives w l c h = field_gives (next_field l w) _ (λ v. h v _)

if_gives : (there : Bool) (w v : ℕ) (l : List Bool) (c : ℕ → List Bool → Reading) → ((u : ℕ) (r : List Bool) → Gives (c u r)) → Gives (next_if there w v l c)
if_gives true w v l c h = next_gives w l c h
if_gives false w v l c h = h v l

-- whatever is read next gives such a number
abbrev GivesAfter : Rest → Type 0
GivesAfter c = (b : List ℕ) (s : Store) (l : List Bool) → Gives (c b s l)

rows_give : (w x k : ℕ) (c : Rest) → GivesAfter c → GivesAfter (λ b s l. read_rows w x k b s l c)
unfolding read_rows
rows_give w x zero c h = h
rows_give w x (suc k) c h =
    rows_give w x k (λ b s l. read_row w x k b s l c)
    (λ b s l. next_gives w l _ (λ v r.
    unless_gives _ _ (cassette_either b (meant w v) ReadingGives (inl (omega arith)) (inl (omega arith)) (inl (omega arith))) (h (b ++ (meant w v ∷ [])) (placed s x k (meant w v)) r)))

shafts_give : (f v x : ℕ) (c : Rest) → GivesAfter c → GivesAfter (λ b s l. read_shafts f v x b s l c)
unfolding read_shafts
shafts_give f v zero c h = h
shafts_give f v (suc x) c h =
    shafts_give f v x (λ b s l. read_shaft f v x b s l c)
    (λ b s l. if_gives (own_depths f) frame_width v l _ (λ u q. next_gives height_width q _ (λ k r.
    unless_gives _ _ (given_either ReadingGives (ltb (u + 1) k) 3 (inl (omega arith)) (inl (omega arith))) (rows_give (cassette_width f) x k c h b (raised (deepened s x (u + 1)) x k) r))))

end_gives : GivesAfter finish
unfolding finish
end_gives b s l = unless_gives _ _ (given_either ReadingGives (not (padding l)) 7 (inl (omega arith)) (inr refl)) (record { number = inl (omega arith) })

pub number_given : (bytes : List ℕ) → ReadingGives (read_image bytes).number
unfolding read_image
number_given bytes =
    (next_gives form_width (bits_of bytes) _ (λ f l. unless_gives _ _ (given_either ReadingGives (ltb last_form f) 1 (inl (omega arith)) (inl (omega arith)))
    (next_gives frame_width l _ (λ m r. if_gives (not (own_depths f)) frame_width 0 r _ (λ v q. shafts_give f v (m + 1) finish end_gives [] (empty_store (m + 1) no_depths) q))))).number
