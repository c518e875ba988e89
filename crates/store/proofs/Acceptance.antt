-- A store is accepted exactly if it is sound; its cassettes are then counted by their marks and the blanks, and are at most as many as its slots
-- (request 5/13).
use mathlib.Core.Bool.{true, not}
use mathlib.Core.Path.{◌≡◌, refl, ap, ◌∙◌}
use Prim.Native.Nat.{ℕ, suc, ◌+◌, ◌-◌, ◌≤◌, ◌<◌}
use native.Mathlib.Omega.{arith}
use Rattle.stacks.specs.Count.{sum, count}
use Rattle.stacks.proofs.Sums.{sum_le, sum_same}
use Rattle.marks.specs.Cassettes.{blank, is_cassette, given}
use Rattle.marks.specs.Marking.{marks_of, mark_count, Marked}
use Rattle.marks.proofs.Faulted.{first_none, not_given}
use Rattle.marks.proofs.Takes.{cassette_range, range_cassette, taken_cassette, marks_counted}
use Rattle.lifts.specs.Lifting.{most_rows, slot_count}
use Rattle.store.specs.declared.Store.{Store}
use Rattle.store.specs.Slots.{depth, height, slot, cassettes_below, cassettes, cassette_count}
use Rattle.store.specs.Accept.{in_place, shafts_fault, store_fault, Accepted}
use Rattle.rows.specs.Rows.{rows_fault}
use Rattle.store.specs.Sound.{Shaped, Sound}
use Rattle.store.proofs.Counted.{heights_counted}
use Rattle.store.proofs.InPlace.{shafts_in_range, some_depth, in_place_shaped, shaped_in_place}
use Rattle.store.proofs.Once.{walked_once, once_walks, cassettes_below_lem}
use Rattle.store.proofs.Verdicts.{by_shafts}
use Rattle.store.proofs.Views.{holds_below}
use Rattle.store.proofs.Walk.{shaft_none, not_too_high}
use Rattle.store.proofs.Rows.{slot_numbered}
use Rattle.rows.proofs.Walk.{row_none}

module _ (s : Store) where
  module _ (e : Accepted s) where
    -- no number refuses the store: what each part of `store_fault` says
    none_met : (in_place s ≡ true) × (shafts_fault s s.m ≡ 0)
    unfolding store_fault
    none_met = let p = first_none (given (not (in_place s)) 12) _ e in (not_given (in_place s) 11 p.0, p.1)

    -- the walk over the shafts of an accepted store meets no fault
    pub accepted_walks : shafts_fault s s.m ≡ 0
    accepted_walks = none_met.1

    -- no shaft below m is too high, and none of its rows has a fault
    shaft_taken : (x : ℕ) → x < s.m → (height s x ≤ depth s x) × (rows_fault (cassettes_below s x) s.slots x (height s x) ≡ 0)
    shaft_taken x h = not_too_high s x (shaft_none s x s.m none_met.1 h)

    row_taken : (x k : ℕ) → x < s.m → k < height s x → is_cassette (slot s x (suc k)) ≡ true
    row_taken x k h i = (taken_cassette _ _ (row_none _ s.slots x k _ (shaft_taken x h).1 i)).0

    pub accepted_shaped : Shaped s
    accepted_shaped =
        in_place_shaped s none_met.0 (λ x h. (shaft_taken x h).0) (λ x k h i. (cassette_range _ (row_taken x k h i)).1)

    pub accepted_sound : Sound s
    unfolding cassettes
    accepted_sound = record {
      shaped = accepted_shaped;
      some_shaft = (shafts_in_range s none_met.0).0;
      some_row = some_depth s none_met.0;
      no_gap = λ x k h z. omega (arith, (cassette_range (slot s x (suc k)) (row_taken x k (holds_below s x accepted_shaped (omega arith)) h)).0);
      once = walked_once s s.m none_met.1;
    }

    -- a row up to the height shows a cassette
    pub accepted_row : (x y : ℕ) → 0 < y → y ≤ height s x → slot s x y ≡ 0 → ⊥
    accepted_row x y h i z =
        let e : suc (y - 1) ≡ y = omega arith in
        accepted_sound.no_gap x (y - 1) (omega (arith, e)) (ap (slot s x) e ∙ z)

    pub accepted_marked : Marked (marks_of (cassettes s)) (cassettes s)
    unfolding cassettes
    accepted_marked = record { marks = refl; below = cassettes_below_lem s accepted_shaped.numbered; once = accepted_sound.once }

    -- "n is the marks of the others plus the count of blanks"
    pub accepted_count : mark_count (marks_of (cassettes s)) + count blank (cassettes s) ≡ cassette_count s
    unfolding cassette_count
    accepted_count = marks_counted _ (cassettes s) accepted_marked

    -- at most as many cassettes as slots, and so at most 256: "A store may now hold 256 cassettes"
    pub accepted_few : cassette_count s ≤ sum s.m (depth s)
    accepted_few = omega (arith, heights_counted s, sum_le s.m (height s) (depth s) (λ x h. accepted_shaped.heights x))

    pub accepted_most : cassette_count s ≤ slot_count
    accepted_most = omega (arith, accepted_few, sum_le s.m (depth s) (λ x. most_rows) (λ x h. accepted_shaped.rows x), sum_same s.m most_rows, accepted_shaped.shafts)

  pub sound_accepted : Sound s → Accepted s
  unfolding cassettes
  sound_accepted p =
      by_shafts s (shaped_in_place s p.shaped p.some_shaft p.some_row) ∙ once_walks s s.m p.shaped.heights (λ x k h. range_cassette _ (p.no_gap x k h) (slot_numbered s x (suc k) p.shaped.numbered)) p.once
