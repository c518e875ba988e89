-- A list with its shafts renamed, byte by byte; and that the names of the numbering are the shafts of the set.
use mathlib.Core.List.{List, [], ◌∷◌, ◌++◌, map, map-append, append-nil}
use mathlib.Core.Path.{◌≡◌, refl, sym, ap, ◌∙◌}
use Prim.Native.Nat.{ℕ, suc, ◌%◌, ◌≤◌, ◌<◌}
use native.Mathlib.Nat.{zero-add}
use native.Mathlib.Omega.{arith}
use lib.ListN.{length, get_or, set, take, drop, length-map, length-take}
use lib.Seq.{take-suc, drop-cons, get_or_at, set_at, append_snoc, take_at, drop_at}
use Rattle.std.proofs.lemmas.List.{take_all, drop_all}
use Rattle.lifts.specs.Bytes.{left, entered}
use Rattle.lifts.specs.Lifting.{most_shafts}
use Rattle.store.specs.declared.Store.{Store}
use Rattle.store.specs.Lists.{Leads, ended, then}
use Rattle.store.specs.Lifts.{lifted}
use Rattle.moves.specs.Written.{written}
use Rattle.sets.specs.declared.Numbering.{Numbering}
use Rattle.sets.specs.Sets.{shafts_in, shaft_at, NumberingIs}
use Rattle.sets.proofs.SetLaws.{shafts_few, placed_shaft}
use Rattle.parts.specs.PartOf.{outward}
use Rattle.part_lists.specs.PartLists.{renamed}

-- the bytes before a place renamed
abbrev pub renamed_to : (ℕ → ℕ) → List ℕ → ℕ → List ℕ
renamed_to f l i = map f (take i l) ++ drop i l

module _ (f : ℕ → ℕ) (l : List ℕ) (i : ℕ) (h : i < length l) where
  before_length : length (map f (take i l)) ≡ i
  before_length = length-map (take i l) f ∙ omega (arith, length-take i l)

  pub renamed_here : get_or (renamed_to f l i) i 0 ≡ get_or l i 0
  renamed_here = ap (λ (r : List ℕ). get_or (map f (take i l) ++ r) i 0) (drop-cons l i 0 h) ∙ get_or_at (map f (take i l)) (get_or l i 0) (drop (suc i) l) 0 i before_length

  pub renamed_more : set (renamed_to f l i) i (f (get_or l i 0)) ≡ renamed_to f l (suc i)
  renamed_more =
      ap (λ (r : List ℕ). set (map f (take i l) ++ r) i (f (get_or l i 0))) (drop-cons l i 0 h)
      ∙ set_at (map f (take i l)) (get_or l i 0) (drop (suc i) l) (f (get_or l i 0)) i before_length
      ∙ sym (ap (λ (r : List ℕ). r ++ drop (suc i) l) (ap (map f) (take-suc l i 0 h) ∙ map-append f (take i l) (get_or l i 0 ∷ [])) ∙ append_snoc (map f (take i l)) (f (get_or l i 0)) (drop (suc i) l))

-- all of them renamed
pub renamed_all : (f : ℕ → ℕ) (l : List ℕ) (i : ℕ) → length l ≤ i → renamed_to f l i ≡ map f l
renamed_all f l i h = rw (take_all i l h, drop_all i l h) (append-nil (map f l))

-- a list at the beginning of the lent bytes
pub written_first : (came l : List ℕ) → written came 0 l ≡ l ++ drop (length l) came
unfolding written
written_first came l = ap (λ (n : ℕ). l ++ drop n came) (zero-add (length l))

pub written_renamed : (f : ℕ → ℕ) (came l : List ℕ) {n : ℕ} → n ≡ length l → renamed_to f (written came 0 l) n ≡ written came 0 (map f l)
written_renamed f came l e =
    ap (renamed_to f (written came 0 l)) e ∙ ap (λ (w : List ℕ). renamed_to f w (length l)) (written_first came l)
    ∙ ap (λ (w : List ℕ). map f w ++ drop (length l) (l ++ drop (length l) came)) (take_at l (drop (length l) came) (length l) refl)
    ∙ ap (λ (w : List ℕ). map f l ++ w) (drop_at l (drop (length l) came) (length l) refl)
    ∙ sym (written_first came (map f l) ∙ ap (λ (n : ℕ). map f l ++ drop n came) (length-map l f))

-- a shaft of the set by its number
name_right : (some m : ℕ) (r : Numbering) → m ≤ most_shafts → NumberingIs (shafts_in some m) r → (a : ℕ) → a < length (shafts_in some m) → get_or r.names a 0 % 16 ≡ shaft_at (shafts_in some m) a
name_right some m r h n a i =
    let p = placed_shaft some m a i in
    let few : a < 16 = omega (arith, shafts_few some m) in
    omega (arith, n.names a few, p.below)

pub names_right : (some : ℕ) (s : Store) (r : Numbering) → s.m ≤ most_shafts → NumberingIs (shafts_in some s.m) r → {u v : Store} {bs : List ℕ} → u.m ≡ length (shafts_in some s.m) → Leads u bs v
    → map (renamed r.names) bs ≡ map (outward some s) bs
unfolding lifted
names_right some s r h n e ended = refl
names_right some s r h n e (then {b = b} {bs} k l) =
    let x = name_right some s.m r h n (left b) (omega (arith, k.left_below)) in
    let y = name_right some s.m r h n (entered b) (omega (arith, k.entered_below)) in
    cc (x, y, names_right some s r h n e l)
