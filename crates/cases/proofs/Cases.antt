-- Every row of the table holds: the whole table passes its tests, which is computed, and a claim that passes its test holds.
use borrow.Author.Tests.{eqb-true, not-true}
use mathlib.Core.Bool.{true}
use mathlib.Core.List.{List, [], ◌∷◌}
use mathlib.Core.Path.{◌≡◌, refl, subst}
use lib.Dec.{eqb}
use Rattle.stacks.specs.Count.{sum, greatest, count}
use Rattle.marks.specs.Cassettes.{is_blank, cassette_fault}
use Rattle.lifts.specs.Lifting.{shown, placed_at, refusal_by}
use Rattle.rows.specs.Rows.{rows_fault, rows_up, rows_down}
use Rattle.store.specs.Accept.{store_fault}
use Rattle.store.specs.Lifts.{lift_refusal, lifted, lift_number}
use Rattle.store.specs.Lists.{Leads}
use Rattle.replay.specs.Replaying.{replay_from}
use Rattle.depths.specs.Depths.{depth_by}
use Rattle.store.specs.Slots.{deepest, cassettes_below, cassettes, cassette_count, empty_count, list_space}
use Rattle.marks.proofs.Faulted.{both_true}
use Rattle.replay.proofs.Replays.{leads_replay}
use Rattle.bits.specs.Fields.{bits, packed, bits_of, bytes_of, next_field}
use Rattle.image.specs.Coding.{coded}
use Rattle.image.specs.Image.{cassette_width, length_in, image_in, holds}
use Rattle.image.specs.Reading.{Reading, read_image}
use Rattle.image.specs.Writing.{write_refusal}
use Rattle.reach.specs.Pairs.{pair_fault}
use Rattle.reach.specs.Rules.{two_shaft_reading, floor}
use Rattle.reach.specs.Tests.{rule_test}
use Rattle.reach.proofs.RuleTests.{list_test, store_test, reachable_test}
use Rattle.reach.proofs.Sets.{comparable}
use Rattle.entries.specs.Entries.{entry_in, malformed, entry_fault, after_entry}
use Rattle.logs.specs.Following.{Following, entries_of, follow_from, follow}
use Rattle.cases.specs.Claims.{Claim, lift_gets, yes_by, unreachable, pair_gets, space_is, reading_gets, image_is, writing_gets, length_is, log_gets, ClaimHolds, AllHold}
use Rattle.cases.specs.Table.{table}
use Rattle.cases.specs.Tests.{read_alike, follow_alike, tested, all_tested}

read_alike_lem : (o q : Reading) → read_alike o q ≡ true → o ≡ q
read_alike_lem o q e =
    let p = both_true (eqb o.number q.number) _ e in
    let n = eqb-true o.number q.number p.0 in
    let s = (store_test o.store q.store).so p.1 in
    λ i. record { store = s i; number = n i }

follow_alike_lem : (o q : Following) → follow_alike o q ≡ true → o ≡ q
follow_alike_lem o q e =
    let p = both_true (eqb o.entry q.entry) _ e in
    let r = both_true (eqb o.number q.number) _ p.1 in
    let i = eqb-true o.entry q.entry p.0 in
    let n = eqb-true o.number q.number r.0 in
    let s = (store_test o.reached q.reached).so r.1 in
    λ j. record { reached = s j; entry = i j; number = n j }

-- a claim that passes its test holds
claim_holds : (c : Claim) → tested c ≡ true → ClaimHolds c
unfolding tested
claim_holds (lift_gets s a b k) e = eqb-true (lift_number s a b) k e
claim_holds (yes_by s bs t) e =
    let p = both_true (eqb (pair_fault s t) 0) _ e in
    let q = both_true (eqb (replay_from s bs).number 0) _ p.1 in (
      eqb-true (pair_fault s t) 0 p.0,
      subst (Leads s bs) ((store_test (replay_from s bs).reached t).so q.1) (leads_replay s bs (eqb-true (replay_from s bs).number 0 q.0)),
    )
claim_holds (unreachable s t) e =
    let p = both_true (eqb (pair_fault s t) 0) _ e in
    let f = eqb-true (pair_fault s t) 0 p.0 in
    (f, (reachable_test s t (comparable s t f)).not_so (not-true (rule_test s t) p.1))
claim_holds (pair_gets s t k) e = eqb-true (pair_fault s t) k e
claim_holds (space_is s k) e = eqb-true (list_space s) k e
claim_holds (reading_gets bytes k) e = read_alike_lem _ _ e
claim_holds (image_is f bytes s) e =
    let p = both_true (read_alike (read_image bytes) (record { store = s; number = 0 })) _ e in
    (read_alike_lem _ _ p.0, (list_test (image_in f s) bytes).so p.1)
claim_holds (writing_gets f s room k) e = eqb-true (write_refusal f s room) k e
claim_holds (length_is f s k) e = eqb-true (length_in f s) k e
claim_holds (log_gets s log i k t) e = follow_alike_lem _ _ e

all_hold : (cs : List Claim) → all_tested cs ≡ true → AllHold cs
unfolding all_tested
all_hold [] e = tt
all_hold (c ∷ cs) e = let p = both_true (tested c) (all_tested cs) e in (claim_holds c p.0, all_hold cs p.1)

pub cases : AllHold table
unfolding all_tested rule_test pair_fault lift_number store_fault rows_fault cassette_fault is_blank shown placed_at refusal_by rows_up rows_down depth_by deepest sum greatest cassettes_below cassettes cassette_count count empty_count list_space floor two_shaft_reading lifted lift_refusal replay_from read_image next_field bits_of image_in coded cassette_width write_refusal holds bits packed bytes_of follow follow_from entries_of entry_in malformed entry_fault after_entry
cases = all_hold table refl
