-- How often a replay carries each cassette (request 2/13): the number 0 never, and all numbers together as often as lifts are done.
use Rattle.std.proofs.Common.{◌≡◌, ℕ, ◌%◌, ◌^◌, ◌<◌, ◌≤◌, eqb, List, length, sym, refl, ap, ◌∙◌, arith, ne_eqb}
use Rattle.stacks.specs.Count.{one, count, sum}
use Rattle.stacks.proofs.Counts.{one_most, counts_more}
use Rattle.stacks.proofs.Sums.{sum_equal, sum_same}
use Rattle.marks.specs.Cassettes.{numbers}
use Rattle.lifts.specs.Bytes.{left, entered}
use Rattle.store.specs.declared.Store.{Store}
use Rattle.store.specs.Accept.{Accepted}
use Rattle.store.specs.Lists.{ended, then}
use Rattle.store.specs.Slots.{height, top_of}
use Rattle.store.specs.Sound.{Shaped}
use Rattle.store.proofs.Acceptance.{accepted_shaped, accepted_row}
use Rattle.store.proofs.Rows.{slot_numbered}
use Rattle.store.proofs.Views.{lifted_shaped}
use Rattle.reach.proofs.Lasting.{leads_accepted}
use Rattle.replay.specs.declared.Replayed.{Replayed}
use Rattle.replay.specs.Promises.{carries_of, ReplayIs}
use Rattle.replay.specs.Replaying.{replay_from, replay, times_carried}
use Rattle.replay.proofs.Replays.{of_any_store, of_each_replay}

-- a lift of an accepted store carries a cassette
pub never_zero : (s : Store) (bs : List ℕ) → Accepted s → times_carried (replay_from s bs) 0 ≡ 0
unfolding count
never_zero =
    of_each_replay (λ s bs o. Accepted s → times_carried o 0 ≡ 0) (λ s bs k e. refl)
    (λ s b bs q o r e. omega (arith, ap one (ne_eqb 0 (top_of s (left b)) (λ z. accepted_row s e (left b) (height s (left b)) q.taken (omega arith) (sym z))), r (leads_accepted e (then q ended))))

-- each lift counts once
total_from : (s : Store) (bs : List ℕ) → Shaped s → sum numbers (times_carried (replay_from s bs)) ≡ (replay_from s bs).count
unfolding count
total_from =
    of_each_replay (λ s bs o. Shaped s → sum numbers (times_carried o) ≡ o.count) (λ s bs k p. sum_same numbers 0)
    (λ s b bs q o r p.
    let x = top_of s (left b) in
    omega (arith, counts_more numbers x o.carried (slot_numbered s (left b) (height s (left b)) p.numbered), r (lifted_shaped s (left b) (entered b) p q)))

-- and no cassette is carried more often than there are lifts in the list
times_few : (s : Store) (bs : List ℕ) (c : ℕ) → times_carried (replay_from s bs) c ≤ length bs
unfolding count
times_few =
    of_each_replay (λ s bs o. (c : ℕ) → times_carried o c ≤ length bs) (λ s bs k c. omega arith)
    (λ s b bs q o r c. omega (arith, one_most (eqb c (top_of s (left b))), r c))

-- what the lookup by number gives for the answer of a replay
pub carries_looked_up : (s : Store) (bs : List ℕ) {r : Replayed} → length bs < 2 ^ 64 → ReplayIs (replay s bs) r → (c : ℕ)
    → carries_of c r.store.slots r.carries % 2 ^ 64 ≡ times_carried (replay s bs) c
unfolding count
carries_looked_up s bs {r} h p c = omega (arith, p.carries c, of_any_store (λ o. times_carried o c ≤ length bs) s bs (λ e. times_few s bs c) (λ k. omega arith))

-- 0 marks an empty slot, and is no cassette
pub none_of_zero : (s : Store) (bs : List ℕ) {r : Replayed} → ReplayIs (replay s bs) r → carries_of 0 r.store.slots r.carries ≡ 0
unfolding count
none_of_zero s bs p = p.carries 0 ∙ of_any_store (λ o. times_carried o 0 ≡ 0) s bs (never_zero s bs) (λ k. refl)

-- "The sum over all cassettes is the count of lifts done.": over all numbers that a slot may show, of which 0 counts nothing
pub carries_total : (s : Store) (bs : List ℕ) {r : Replayed} → ReplayIs (replay s bs) r → sum numbers (λ c. carries_of c r.store.slots r.carries) ≡ r.count
unfolding count
carries_total s bs {r} p =
    sum_equal numbers _ (times_carried (replay s bs)) (λ c h. p.carries c)
    ∙ of_any_store (λ o. sum numbers (times_carried o) ≡ o.count) s bs (λ e. total_from s bs (accepted_shaped s e)) (λ k. sum_same numbers 0)
    ∙ sym p.count
