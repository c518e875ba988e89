-- What every list of lifts keeps: the lowest rows, how often each number stands, that no empty slot lies under a cassette, and so that the store is
-- accepted.
use borrow.Author.Tests.{eq-eqb}
use mathlib.Core.List.{List}
use mathlib.Core.Path.{◌≡◌, sym, ap, ◌∙◌, subst}
use Prim.Native.Nat.{ℕ, zero, suc, ◌-◌, ◌<◌}
use native.Mathlib.Decide.{ℕ_discrete}
use native.Mathlib.Omega.{arith}
use Rattle.stacks.specs.Count.{one, count, occurrences, empties, lowest}
use Rattle.stacks.proofs.Floors.{floors_kept}
use Rattle.stacks.proofs.Kept.{occurrences_kept}
use Rattle.stacks.proofs.Sums.{term_le_sum, some_positive}
use Rattle.store.specs.declared.Store.{Store}
use Rattle.depths.specs.Depths.{depth_by}
use Rattle.store.specs.Slots.{depth, SameFrame, height, slot, downward, stack, cassettes, cassette_count}
use Rattle.rows.specs.Rows.{rows_down}
use Rattle.rows.proofs.Upward.{rows_count, none_shown}
use Rattle.store.specs.Accept.{Accepted}
use Rattle.store.specs.Lists.{Leads}
use Rattle.store.specs.Sound.{Shaped}
use Rattle.store.proofs.Acceptance.{accepted_sound, sound_accepted}
use Rattle.store.proofs.Counted.{same_count}
use Rattle.store.proofs.Views.{holds_below}
use Rattle.store.proofs.Played.{leads_run, leads_shaped, leads_frame}
use Rattle.reach.proofs.Agree.{shaped_within, occurrences_agree}

-- the lowest cassettes of each shaft, as many as the empty slots leave of its depth, are the same
abbrev pub SameLowest : Store → Store → Type 0
SameLowest s t =
    let e = empties s.m (depth s) (stack s) in
    (x : ℕ) → x < s.m → lowest (depth s x - e) (stack s x) ≡ lowest (depth s x - e) (stack t x)

module _ {s t : Store} {bs : List ℕ} (p : Shaped s) (l : Leads s bs t) where
  pub leads_occurrences : (c : ℕ) → occurrences s.m c (stack s) ≡ occurrences s.m c (stack t)
  leads_occurrences = occurrences_kept (leads_run p l)

  pub leads_floors : SameLowest s t
  leads_floors = floors_kept (shaped_within s p) (leads_run p l)

-- no slot up to a height is empty
abbrev pub NoGap : Store → Type 0
NoGap s = (x k : ℕ) → k < height s x → slot s x (suc k) ≡ 0 → ⊥

module _ (s : Store) (c x : ℕ) where
  -- a row that shows c is counted
  pub row_counted : (n k : ℕ) → k < n → slot s x (suc k) ≡ c → 0 < count c (downward s x n)
  unfolding rows_down count
  row_counted zero k h e = absurd (omega arith)
  row_counted (suc n) k h e =
      elim (ℕ_discrete k n) [
        | yes i ↦ omega (arith, ap one (eq-eqb c (slot s x (suc n)) (sym e ∙ ap (λ (j : ℕ). slot s x (suc j)) i)))
        | no i ↦ omega (arith, row_counted n k (omega arith) e)
      ]

  -- where no row shows c, none is
  pub none_counted : (n : ℕ) → ((k : ℕ) → k < n → slot s x (suc k) ≡ c → ⊥) → count c (downward s x n) ≡ 0
  none_counted n f = sym (rows_count s.slots x c n) ∙ none_shown s.slots x c n f

module _ {s t : Store} {bs : List ℕ} (p : Shaped s) (l : Leads s bs t) where
  pub leads_no_gap : NoGap s → NoGap t
  unfolding stack occurrences
  leads_no_gap f x k h e =
      let b : x < s.m = omega (arith, holds_below t x (leads_shaped p l) (omega arith), (leads_frame l).shafts) in
      let y =
      some_positive s.m (λ i. count 0 (stack s i))
      (omega (arith, leads_occurrences p l 0, term_le_sum s.m (λ i. count 0 (stack t i)) x b, row_counted t 0 x (height t x) k h e)) in
      omega (arith, y.less, none_counted s 0 y.place (height s y.place) (f y.place))

  pub leads_counts : (c : ℕ) → count c (cassettes t) ≡ count c (cassettes s)
  leads_counts c = cc (occurrences_agree t c, (leads_frame l).shafts, leads_occurrences p l c, occurrences_agree s c)

  pub leads_count : cassette_count t ≡ cassette_count s
  leads_count = same_count t s leads_counts

-- stores of one frame have the same depths
pub frame_depths : {s t : Store} → SameFrame s t → depth s ≡ depth t
frame_depths f = ap depth_by f.depths

pub leads_accepted : {s t : Store} {bs : List ℕ} → Accepted s → Leads s bs t → Accepted t
leads_accepted {s} {t} e l =
    let p = accepted_sound s e in
    let f = leads_frame l in
    sound_accepted t (record {
      shaped = leads_shaped p.shaped l;
      some_shaft = omega (arith, f.shafts, p.some_shaft);
      some_row = λ x h. subst (λ (d : ℕ → ℕ). 0 < d x) (frame_depths f) (p.some_row x (omega (arith, f.shafts)));
      no_gap = leads_no_gap p.shaped l p.no_gap;
      once = λ c r. omega (arith, leads_counts p.shaped l c, p.once c r);
    })
