-- Lists of lifts of a store and of the store of some of its shafts: each list of the one, with lifts between two of these shafts or two others, has one of the
-- other in it, and each list of the other is one of the store that keeps to these shafts.
use mathlib.Core.Bool.{true, false}
use mathlib.Core.List.{List, [], ◌∷◌, ◌++◌, map}
use mathlib.Core.Path.{◌≡◌, refl, sym, ap, ◌∙◌}
use Prim.Native.Nat.{ℕ, zero, suc, ◌<◌}
use native.Mathlib.Omega.{arith}
use lib.ListN.{length, get_or}
use Rattle.stacks.specs.Moves.{lift}
use Rattle.stacks.proofs.Deciding.{true_false}
use Rattle.lifts.specs.Bytes.{left, entered, lift_byte}
use Rattle.store.specs.declared.Store.{Store}
use Rattle.store.specs.Slots.{stack}
use Rattle.store.specs.Lifts.{Allowed, lifted}
use Rattle.store.specs.Lists.{byte_of, Leads, ended, then}
use Rattle.store.specs.Sound.{Shaped}
use Rattle.store.proofs.Played.{lift_then}
use Rattle.store.proofs.Views.{lifted_shaped, lift_step}
use Rattle.sets.specs.Sets.{has, shafts_in}
use Rattle.sets.proofs.SetLaws.{by_test}
use Rattle.parts.specs.PartOf.{named, outward, PartOf}
use Rattle.within.specs.Within.{Each, none, more, Inside}
use Rattle.within.proofs.PartLifts.{named_shaft, allowed_out, lifted_out, allowed_in, lifted_in, lifted_elsewhere}

-- each lift of two lists one after the other
pub each_append : {P : ℕ → Type 0} {l r : List ℕ} → Each P l → Each P r → Each P (l ++ r)
each_append none k = k
each_append (more p e) k = more p (each_append e k)

-- what follows from it holds of each lift too
pub each_so : {P Q : ℕ → Type 0} {l : List ℕ} → ((b : ℕ) → P b → Q b) → Each P l → Each Q l
each_so f none = none
each_so f (more {b} p e) = more (f b p) (each_so f e)

-- what holds of each lift holds of the one at a place
pub each_at : {P : ℕ → Type 0} {l : List ℕ} → Each P l → (i : ℕ) → i < length l → P (get_or l i 0)
each_at none i h = absurd (omega arith)
each_at (more p e) zero h = p
each_at (more p e) (suc i) h = each_at e i (omega arith)

-- both shafts of a lift are in the set, or neither is
abbrev pub Together : ℕ → ℕ → Type 0
Together some b = has some (left b) ≡ has some (entered b)

-- a list of the part, to the part of t
pub record Inner (some : ℕ) (r t : Store) : Type 0 where
  pub lifts : List ℕ
  pub end : Store
  pub leads : Leads r lifts end
  pub part : PartOf some t end

pub inner : (some : ℕ) {s t : Store} {bs : List ℕ} → Shaped s → (r : Store) → PartOf some s r → Leads s bs t → Each (Together some) bs → Inner some r t
inner some p r q ended none = record { lifts = []; end = r; leads = ended; part = q }
inner some p r q (then {s} {t} {b} {bs} k l) (more e es) =
    let p' = lifted_shaped s (left b) (entered b) p k in
    by_test (has some (left b))
    (λ i.
    let j : has some (entered b) ≡ true = sym e ∙ i in
    let a : Allowed r (length (shafts_in some (left b))) (length (shafts_in some (entered b))) = allowed_in some p q (left b) (entered b) k i j in
    let n = inner some p' (lifted r (length (shafts_in some (left b))) (length (shafts_in some (entered b)))) (lifted_in some p q (left b) (entered b) k i j) l es in
    record {
      lifts = byte_of (lift (length (shafts_in some (left b))) (length (shafts_in some (entered b)))) ∷ n.lifts;
      end = n.end;
      leads = lift_then r n.end (lift (length (shafts_in some (left b))) (length (shafts_in some (entered b)))) n.lifts (omega (arith, a.entered_below, q.shaped.shafts)) a n.leads;
      part = n.part;
    })
    (λ o. inner some p' r (lifted_elsewhere some p q (left b) (entered b) k o (sym e ∙ o)) l es)

-- a list of the part, from s: it keeps to the shafts of the set
pub record Outer (some : ℕ) (s : Store) (bs : List ℕ) (q : Store) : Type 0 where
  pub end : Store
  pub leads : Leads s (map (outward some s) bs) end
  pub part : PartOf some end q
  pub outside : (x : ℕ) → has some x ≡ false → stack end x ≡ stack s x
  pub inside : Each (Inside some) (map (outward some s) bs)

pub outer : (some : ℕ) {r q : Store} {bs : List ℕ} (s : Store) → Shaped s → PartOf some s r → Leads r bs q → Outer some s bs q
unfolding lifted
outer some s p k ended = record { end = s; leads = ended; part = k; outside = λ x h. refl; inside = none }
outer some s p k (then {s = r} {t = q} {b} {bs} a l) =
    let x = named some s (left b) in
    let y = named some s (entered b) in
    let a' : Allowed s x y = allowed_out some p k (left b) (entered b) a in
    let i : has some x ≡ true = (named_shaft some p k (left b) a.left_below).in_set in
    let j : has some y ≡ true = (named_shaft some p k (entered b) a.entered_below).in_set in
    let y-below : y < 16 = omega (arith, a'.entered_below, p.shafts) in
    let n : Outer some (lifted s x y) bs q = outer some (lifted s x y) (lifted_shaped s x y p a') (lifted_out some p k (left b) (entered b) a) l in
    let u : left (lift_byte x y) ≡ x = omega arith in
    let v : entered (lift_byte x y) ≡ y = omega arith in
    record {
      end = n.end;
      leads = lift_then s n.end (lift x y) (map (outward some s) bs) y-below a' n.leads;
      part = n.part;
      outside = λ z f. n.outside z f ∙ (lift_step s x y p a').kept z (λ e. true_false (sym i ∙ ap (has some) (sym e) ∙ f)) (λ e. true_false (sym j ∙ ap (has some) (sym e) ∙ f));
      inside = more (ap (has some) u ∙ i, ap (has some) v ∙ j) n.inside;
    }
