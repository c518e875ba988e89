-- What the next field gives a reading, and what an accepted reading says of the field that came next.
use mathlib.Core.Bool.{Bool, true, false, cond}
use mathlib.Core.List.{List, ◌++◌}
use mathlib.Core.Path.{◌≡◌, refl, sym, ap, ◌∙◌}
use Prim.Native.Nat.{ℕ, zero, suc, ◌^◌, ◌<◌}
use native.Mathlib.Omega.{arith}
use lib.ListN.{drop}
use lib.Seq.{drop_at}
use Rattle.std.specs.Prelude.{Option, Some, None}
use Rattle.bits.specs.Fields.{bits, next_field}
use Rattle.bits.proofs.Places.{field_first, There, there, Found, look}
use Rattle.bits.proofs.Widths.{length_bits, field_lt}
use Rattle.stacks.proofs.Deciding.{true_false}
use Rattle.store.specs.declared.Store.{Store}
use Rattle.image.specs.Image.{field_if}
use Rattle.image.specs.Reading.{Reading, unless, from_field, next, next_if}

pub next_reads : (w v : ℕ) (r : List Bool) (c : ℕ → List Bool → Reading) → v < 2 ^ w → next w (bits w v ++ r) c ≡ c v r
next_reads w v r c h = rw (field_first w v r h, drop_at (bits w v) r w (length_bits w v))

abbrev pub accepted : Store → Reading
accepted s = record { store = s; number = 0 }

pub unless_accepted : (k : ℕ) (r : Reading) (s : Store) → unless k r ≡ accepted s → (k ≡ 0) × (r ≡ accepted s)
unless_accepted zero r s e = (refl, e)
unless_accepted (suc k) r s e = let z : suc k ≡ 0 = ap (λ (q : Reading). q.number) e in absurd (omega arith)

-- where a reading is accepted, its next field is there, and what follows is accepted
pub record Took (w : ℕ) (l : List Bool) (c : ℕ → List Bool → Reading) (s : Store) : Type 0 where
  pub v : ℕ
  pub is : There l w v
  pub after : c v (drop w l) ≡ accepted s

pub took : (w : ℕ) (l : List Bool) (c : ℕ → List Bool → Reading) (s : Store) → next w l c ≡ accepted s → Took w l c s
took w l c s e = go (look l w)
  where
    on : (f : Option ℕ) → next_field l w ≡ f → from_field f (λ n. c n (drop w l)) ≡ accepted s
    on f q = sym (ap (λ (g : Option ℕ). from_field g (λ n. c n (drop w l))) q) ∙ e

    go : Found l w → Took w l c s
    go (Found.found v q) = record { v = v; is = there l w v q; after = on (Some v) q }
    go (Found.lost q) = let z : ◌≡◌ {A = ℕ} 2 0 = ap (λ (r : Reading). r.number) (on None q) in absurd (omega arith)

-- a field that is there or not: what it gives a reading, and what an accepted reading says of it
pub if_reads : (there : Bool) (w v u : ℕ) (r : List Bool) (c : ℕ → List Bool → Reading) → u < 2 ^ w → next_if there w v (field_if there w u ++ r) c ≡ c (cond there u v) r
if_reads true w v u r c h = next_reads w u r c h
if_reads false w v u r c h = refl

pub record TookIf (there : Bool) (w v : ℕ) (l : List Bool) (c : ℕ → List Bool → Reading) (s : Store) : Type 0 where
  pub u : ℕ
  pub left : List Bool
  pub begins : l ≡ field_if there w u ++ left
  pub after : c u left ≡ accepted s
  pub small : u < 2 ^ w
  pub same : there ≡ false → u ≡ v

pub took_if : (there : Bool) (w v : ℕ) (l : List Bool) (c : ℕ → List Bool → Reading) (s : Store) → v < 2 ^ w → next_if there w v l c ≡ accepted s → TookIf there w v l c s
took_if true w v l c s h e =
    let f = took w l c s e in
    record { u = f.v; left = drop w l; begins = f.is.begins; after = f.after; small = rw f.is.value (field_lt _ w); same = λ z. absurd (true_false z) }
took_if false w v l c s h e = record { u = v; left = l; begins = refl; after = e; small = h; same = λ z. refl }
