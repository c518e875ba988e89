-- Lists of lifts with those of each group in turn.
use mathlib.Core.Bool.{cond}
use mathlib.Core.List.{List, [], ◌∷◌, ◌++◌, append-nil, append_assoc}
use mathlib.Core.Path.{◌≡◌, sym, ap, ◌∙◌, subst}
use Prim.Native.Nat.{ℕ, suc, ◌+◌, ◌-◌, ◌≤◌, ◌<◌}
use native.Mathlib.Decide.{dec_lt}
use native.Mathlib.Omega.{arith}
use lib.Dec.{ltb}
use lib.ListN.{length, get_or, length-append, get_or-append}
use lib.Seq.{get_or-append-add}
use borrow.Author.Tests.{lt-ltb, le-ltb}
use Rattle.within.specs.Within.{Each, none, Inside, InOne, InTurn, next}
use Rattle.within.proofs.Lists.{each_append, each_so, each_at}

-- a list in turn has no lift between groups
pub turn_apart : {row ls : List ℕ} → InTurn row ls → Each (InOne row) ls
turn_apart none = none
turn_apart (next {group} {groups} e l) =
    each_append (each_so (λ b i. record { place = 0; there = omega arith; inside = i }) e)
    (each_so (λ b o. record { place = suc o.place; there = omega (arith, o.there); inside = o.inside }) (turn_apart l))

-- the group of each lift of a list in turn: no lift of a group stands before one of a group before it in the row
pub record Sorted (row ls : List ℕ) : Type 0 where
  pub place : ℕ → ℕ
  pub inside : (i : ℕ) → i < length ls → (place i < length row) × Inside (get_or row (place i) 0) (get_or ls i 0)
  pub rising : (i j : ℕ) → i ≤ j → j < length ls → place i ≤ place j

pub turn_sorted : {row ls : List ℕ} → InTurn row ls → Sorted row ls
turn_sorted none = record { place = λ i. 0; inside = λ i h. absurd (omega arith); rising = λ i j h k. omega arith }
turn_sorted (next {group} {groups} {own} {rest} e l) =
    let k = turn_sorted l in
    record {
      place = λ i. cond (ltb i (length own)) 0 (suc (k.place (i - length own)));
      inside = λ i h. elim (dec_lt i (length own)) [
        | yes q ↦ rw (lt-ltb i (length own) q, get_or-append own rest 0 i q) (omega arith, each_at e i q)
        | no q ↦
            let f = k.inside (i - length own) (omega (arith, length-append own rest)) in
            let n : i ≡ length own + (i - length own) = omega arith in
            let at : get_or (own ++ rest) i 0 ≡ get_or rest (i - length own) 0 = ap (λ (j : ℕ). get_or (own ++ rest) j 0) n ∙ get_or-append-add own rest (i - length own) 0 in
            rw (le-ltb i (length own) (omega arith), at) (omega (arith, f.0), f.1)
      ];
      rising = λ i j h m. elim (dec_lt i (length own)) [
        | yes q ↦ rw (lt-ltb i (length own) q) (omega arith)
        | no q ↦ rw (le-ltb i (length own) (omega arith), le-ltb j (length own) (omega arith)) (omega (arith, k.rising (i - length own) (j - length own) (omega arith) (omega (arith, length-append own rest))))
      ];
    }

-- the lifts of one set more
pub turn_more : {row ls own : List ℕ} (g : ℕ) → InTurn row ls → Each (Inside g) own → InTurn (row ++ (g ∷ [])) (ls ++ own)
turn_more {own = own} g none k = subst (InTurn _) (append-nil own) (next k none)
turn_more {own = own} g (next {group} {groups} {own = first} {rest} e l) k =
    subst (InTurn (group ∷ (groups ++ (g ∷ [])))) (sym (append_assoc first rest own)) (next e (turn_more g l k))

-- with one group they are within it
pub turn_within : (opened : ℕ) {ls : List ℕ} → InTurn (opened ∷ []) ls → Each (Inside opened) ls
turn_within opened (next {own} e none) = subst (Each (Inside opened)) (sym (append-nil own)) e
