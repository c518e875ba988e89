-- Each claim as a test that is computed: by the definitions themselves, by replaying the list, and for a goal that can't be reached by the rule.
use Rattle.std.specs.Prelude.{Bool, true, not, ◌&&◌, List, [], ◌∷◌, eqb}
use Rattle.store.specs.Slots.{list_space}
use Rattle.store.specs.Lifts.{lift_number}
use Rattle.replay.specs.Replaying.{replay_from}
use Rattle.reach.specs.Pairs.{same_list, pair_fault}
use Rattle.reach.specs.Tests.{same_store, rule_test}
use Rattle.image.specs.Image.{length_in, image_in}
use Rattle.image.specs.Reading.{Reading, refused, read_image}
use Rattle.image.specs.Writing.{write_refusal}
use Rattle.logs.specs.Following.{Following, follow}
use Rattle.cases.specs.Claims.{Claim, lift_gets, yes_by, unreachable, pair_gets, space_is, reading_gets, image_is, writing_gets, length_is, log_gets}

abbrev pub read_alike : Reading → Reading → Bool
read_alike o q = eqb o.number q.number && same_store o.store q.store

abbrev pub follow_alike : Following → Following → Bool
follow_alike o q = eqb o.entry q.entry && (eqb o.number q.number && same_store o.reached q.reached)

unfoldable pub tested : Claim → Bool
tested (lift_gets s a b k) = eqb (lift_number s a b) k
tested (yes_by s bs t) = eqb (pair_fault s t) 0 && (eqb (replay_from s bs).number 0 && same_store (replay_from s bs).reached t)
tested (unreachable s t) = eqb (pair_fault s t) 0 && not (rule_test s t)
tested (pair_gets s t k) = eqb (pair_fault s t) k
tested (space_is s k) = eqb (list_space s) k
tested (reading_gets bytes k) = read_alike (read_image bytes) (refused k)
tested (image_is f bytes s) = read_alike (read_image bytes) (record { store = s; number = 0 }) && same_list (image_in f s) bytes
tested (writing_gets f s room k) = eqb (write_refusal f s room) k
tested (length_is f s k) = eqb (length_in f s) k
tested (log_gets s log i k t) = follow_alike (follow s log) (record { reached = t; entry = i; number = k })

-- every claim of a list passes its test
unfoldable pub all_tested : List Claim → Bool
unfolding tested
all_tested [] = true
all_tested (c ∷ cs) = tested c && all_tested cs
