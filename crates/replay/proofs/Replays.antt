-- A replay does the lifts of a list while they are allowed: it runs through exactly if the list leads somewhere, and then it comes there.
use Rattle.std.proofs.Common.{◌≡◌, ℕ, zero, suc, List, [], ◌∷◌, length, refl, ap, ◌∙◌}
use native.Mathlib.Decide.{ℕ_discrete}
use Rattle.lifts.specs.Bytes.{left, entered}
use Rattle.store.specs.declared.Store.{Store}
use Rattle.store.specs.Accept.{store_fault}
use Rattle.store.specs.Lifts.{Allowed, lift_refusal, lifted}
use Rattle.store.specs.Lists.{Leads, ended, then, Reachable}
use Rattle.store.specs.Slots.{top_of}
use Rattle.store.proofs.Refusals.{allowed_none, none_allowed}
use Rattle.replay.specs.Replaying.{Outcome, one_more, none_done, replay_from, replay}

-- an allowed lift is done, and counted
pub replay_goes : (s : Store) (b : ℕ) (bs : List ℕ) → lift_refusal s (left b) (entered b) ≡ 0
    → replay_from s (b ∷ bs) ≡ one_more (top_of s (left b)) (replay_from (lifted s (left b) (entered b)) bs)
unfolding replay_from
replay_goes s b bs e = rw (e, replay_from)

-- a refused one stops the replay, with its number
pub replay_stops : (s : Store) (b : ℕ) (bs : List ℕ) (k : ℕ) → lift_refusal s (left b) (entered b) ≡ k → (k ≡ 0 → ⊥)
    → replay_from s (b ∷ bs) ≡ none_done s k
unfolding replay_from
replay_stops s b bs zero e n = absurd (n refl)
replay_stops s b bs (suc k) e n = rw (e, replay_from)

-- the store's own fault comes first
pub replay_accepted : (s : Store) (bs : List ℕ) → store_fault s ≡ 0 → replay s bs ≡ replay_from s bs
unfolding replay
replay_accepted s bs e = rw (e, replay)

pub replay_refuses : (s : Store) (bs : List ℕ) (k : ℕ) → store_fault s ≡ k → (k ≡ 0 → ⊥) → replay s bs ≡ none_done s k
unfolding replay
replay_refuses s bs zero e n = absurd (n refl)
replay_refuses s bs (suc k) e n = rw (e, replay)

-- what holds of the replay from an accepted store, and where no lift is done, holds of the replay of any store
pub of_any_store : (P : Outcome → Type 0) (s : Store) (bs : List ℕ) → (store_fault s ≡ 0 → P (replay_from s bs)) → ((k : ℕ) → P (none_done s k)) → P (replay s bs)
of_any_store P s bs p q =
    elim (ℕ_discrete (store_fault s) 0) [
      | yes e ↦ rw (replay_accepted s bs e) (p e)
      | no n ↦ rw (replay_refuses s bs _ refl n) (q _)
    ]

-- a list that leads to t is replayed to its end, and to t
pub replay_leads : {s t : Store} {bs : List ℕ} → Leads s bs t
    → ((replay_from s bs).reached ≡ t) × ((replay_from s bs).count ≡ length bs) × ((replay_from s bs).number ≡ 0)
unfolding replay_from
replay_leads ended = (refl, refl, refl)
replay_leads (then {s} {t} {b} {bs} q r) =
    let g = replay_goes s b bs (allowed_none s (left b) (entered b) q) in
    let p = replay_leads r in
    (ap (λ (o : Outcome). o.reached) g ∙ p.0, ap (λ (o : Outcome). o.count) g ∙ ap suc p.1, ap (λ (o : Outcome). o.number) g ∙ p.2)

-- a list replayed to its end leads to the store reached
pub leads_replay : (s : Store) (bs : List ℕ) → (replay_from s bs).number ≡ 0 → Leads s bs (replay_from s bs).reached
unfolding replay_from
leads_replay s [] e = ended
leads_replay s (b ∷ bs) e =
    elim (ℕ_discrete (lift_refusal s (left b) (entered b)) 0) [
      | yes u ↦ rw (replay_goes s b bs u)
          (then (none_allowed s (left b) (entered b) u) (leads_replay (lifted s (left b) (entered b)) bs (rw (replay_goes s b bs u) at e)))
      | no n ↦ absurd (n (rw (replay_stops s b bs _ refl n) at e))
    ]

-- what holds where no lift is done, and goes from a replay to one with an allowed lift before it, holds of every replay
pub of_each_replay : (P : Store → List ℕ → Outcome → Type 0) → ((s : Store) (bs : List ℕ) (k : ℕ) → P s bs (none_done s k))
    → ((s : Store) (b : ℕ) (bs : List ℕ) → Allowed s (left b) (entered b) → (o : Outcome) → P (lifted s (left b) (entered b)) bs o → P s (b ∷ bs) (one_more (top_of s (left b)) o))
    → (s : Store) (bs : List ℕ) → P s bs (replay_from s bs)
unfolding replay_from
of_each_replay P none more s [] = none s [] 0
of_each_replay P none more s (b ∷ bs) =
    elim (ℕ_discrete (lift_refusal s (left b) (entered b)) 0) [
      | yes u ↦ rw (replay_goes s b bs u) (more s b bs (none_allowed s (left b) (entered b) u) _ (of_each_replay P none more (lifted s (left b) (entered b)) bs))
      | no n ↦ rw (replay_stops s b bs _ refl n) (none s (b ∷ bs) _)
    ]

-- the lifts that a replay did lead to the store that it reached
pub from_reaches : (s : Store) (bs : List ℕ) → Reachable s (replay_from s bs).reached
from_reaches =
    of_each_replay (λ s bs o. Reachable s o.reached) (λ s bs k. record { lifts = []; leads = ended })
    (λ s b bs q o r. record { lifts = b ∷ r.lifts; leads = then q r.leads })
