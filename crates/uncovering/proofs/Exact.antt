-- No two answers for one number are right at once (document 01, "Agreement on the contracts").
use mathlib.Core.List.{List}
use mathlib.Core.Path.{◌≡◌, refl, ap, ◌∙◌}
use Prim.Native.Nat.{ℕ, suc, ◌-◌, ◌<◌}
use native.Mathlib.Omega.{arith}
use Rattle.stacks.specs.Count.{count, occurrences}
use Rattle.stacks.proofs.Sums.{term_le_sum, some_positive}
use Rattle.store.specs.declared.Store.{Store}
use Rattle.store.specs.Slots.{height, slot, stack}
use Rattle.store.specs.Accept.{Accepted}
use Rattle.store.proofs.Acceptance.{accepted_shaped}
use Rattle.store.proofs.Played.{leads_frame}
use Rattle.reach.proofs.Lasting.{leads_occurrences, row_counted, none_counted}
use Rattle.std.specs.Prelude.{Result, Ok, Err}
use Rattle.uncovering.specs.declared.Hidden.{Hidden}
use Rattle.uncovering.specs.declared.Hidden.TheVariants.{Absent, Buried}
use Rattle.uncovering.specs.Promises.{UncoveringIs}
use Rattle.uncovering.specs.Uncovering.{Stands, Uncovered, Uncovers, Fewest}

module _ (s : Store) (p : Accepted s) (c : ℕ) where
  -- the top of a shaft is counted, and nothing is where nothing stands
  top_counted : (t : Store) (w : Uncovered t c) → 0 < count c (stack t w.shaft)
  unfolding stack
  top_counted t w =
      let k = height t w.shaft - 1 in
      let e : suc k ≡ height t w.shaft = omega (arith, w.some) in
      row_counted t c w.shaft (height t w.shaft) k (omega (arith, e)) (ap (slot t w.shaft) e ∙ w.top)

  none_in_shaft : (Stands s c → ⊥) → (x : ℕ) → x < s.m → count c (stack s x) ≡ 0
  unfolding stack
  none_in_shaft n x h =
      none_counted s c x (height s x) (λ k i e. n (record { shaft = x; row = suc k; below = h; from_one = omega arith; held = i; shows = e }))

  -- so a number that stands nowhere is uncovered by no list
  absent_covered : (Stands s c → ⊥) → {list : List ℕ} → Uncovers s c list → ⊥
  unfolding occurrences
  absent_covered n u =
      let w = u.uncovered in
      let t = u.reached in
      let b : w.shaft < s.m = omega (arith, w.below, (leads_frame u.leads).shafts) in
      let y = some_positive s.m (λ i. count c (stack s i))
      (omega (arith, leads_occurrences (accepted_shaped s p) u.leads c, term_le_sum s.m (λ i. count c (stack t i)) w.shaft b, top_counted t w)) in
      omega (arith, y.less, none_in_shaft n y.place y.below)

  fewest_one : {j k : ℕ} → Fewest s c j → Fewest s c k → j ≡ k
  fewest_one f g = omega (arith, f.least g.list g.uncovers, f.count, g.least f.list f.uncovers, g.count)

  pub uncovering_exact : (a b : Result ℕ Hidden) → UncoveringIs s c a → UncoveringIs s c b → a ≡ b
  uncovering_exact (Ok j) (Ok k) f g = ap Ok (fewest_one f g)
  uncovering_exact (Ok j) (Err Absent) f n = absurd (absent_covered n f.uncovers)
  uncovering_exact (Ok j) (Err Buried) f n = absurd (n.1 _ f.uncovers)
  uncovering_exact (Err Absent) (Ok k) n f = absurd (absent_covered n f.uncovers)
  uncovering_exact (Err Absent) (Err Absent) n f = refl
  uncovering_exact (Err Absent) (Err Buried) n f = absurd (n f.0)
  uncovering_exact (Err Buried) (Ok k) n f = absurd (n.1 _ f.uncovers)
  uncovering_exact (Err Buried) (Err Absent) f n = absurd (n f.0)
  uncovering_exact (Err Buried) (Err Buried) f g = refl
