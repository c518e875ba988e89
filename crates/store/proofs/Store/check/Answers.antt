-- `check` meets its contract: 12, then the walk over the shafts.
use borrow.Author.Rules.{rules}
use mathlib.Core.Bool.{Bool, true}
use mathlib.Core.Path.{◌≡◌, sym, ◌∙◌}
use lib.ListN.{length}
use Rattle.std.proofs.lemmas.Result.{MatchResult-weaker}
use Rattle.lifts.specs.Lifting.{most_shafts, slot_count}
use Rattle.in_place.specs.InPlace.{arrays_in_place}
use Rattle.store.specs.declared.Store.{Store}
use Rattle.store.specs.Accept.{in_place, shafts_fault, store_fault}
use Rattle.store.proofs.InPlace.{by_arrays, shafts_in_range, depths_fit}
use Rattle.store.proofs.Numbered.{only_fault}
use Rattle.store.proofs.Verdicts.{out_of_place, by_shafts}
use Rattle.store.proofs.Store.check.Goals as goal

-- what the arrays of a store value hold
tested : {r : Bool} (s : Store) → length s.depths ≡ most_shafts → length s.heights ≡ most_shafts → length s.slots ≡ slot_count
    → r ≡ arrays_in_place s.m s.depths s.heights s.slots → in_place s ≡ r
tested s d a b e = by_arrays s d a b ∙ sym e

pub returns-then-not-arrays_in_place : goal.returns-then-not-arrays_in_place
returns-then-not-arrays_in_place c =
    only_fault (sym (out_of_place c.args.self (tested c.args.self (search rules) (search rules) (search rules) c.arrays_in_place.ensures ∙ c.if-not-arrays_in_place.true)))

pub check_shafts-requires : goal.check_shafts-requires
check_shafts-requires c =
    let s = c.args.self in
    let p : in_place s ≡ true = tested s (search rules) (search rules) (search rules) c.arrays_in_place.ensures ∙ c.if-not-arrays_in_place.false in
    ((shafts_in_range s p).1, depths_fit s p)

pub returns : goal.returns
returns c =
    let s = c.args.self in
    let e : store_fault s ≡ shafts_fault s s.m
    = by_shafts s (tested s (search rules) (search rules) (search rules) c.arrays_in_place.ensures ∙ c.if-not-arrays_in_place.false) in
    MatchResult-weaker c.check_shafts.result c.check_shafts.ensures (λ words p. (e ∙ p.0, (p.1.0.marks, p.1.1))) (λ f o. rw e o)
