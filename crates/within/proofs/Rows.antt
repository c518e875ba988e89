-- The heart of planning by groups: a list without a lift between groups has a list of each group in it, and lists of the groups, one after the other, lead to
-- the goal. So it is reachable exactly if each group is reachable within itself.
use mathlib.Core.Bool.{true}
use mathlib.Core.List.{List, [], ◌∷◌, ◌++◌, map}
use mathlib.Core.Path.{◌≡◌, refl, sym, ap, ◌∙◌, subst}
use Prim.Native.Nat.{ℕ, ◌+◌, ◌<◌}
use native.Mathlib.Decide.{ℕ_discrete, dec_lt}
use native.Mathlib.Omega.{arith}
use lib.ListN.{length, get_or}
use Rattle.stacks.specs.Count.{one}
use Rattle.lifts.specs.Bytes.{left, entered}
use Rattle.store.specs.declared.Store.{Store}
use Rattle.store.specs.Slots.{SameFrame, stack}
use Rattle.store.specs.Lists.{Leads, ended, then, Reachable}
use Rattle.store.specs.Sound.{Shaped}
use Rattle.store.proofs.Acceptance.{accepted_shaped}
use Rattle.store.proofs.Played.{leads_shaped, leads_frame, leads_then}
use Rattle.store.proofs.Views.{lifted_shaped, lift_step, same_stacks}
use Rattle.reach.specs.Pairs.{Comparable}
use Rattle.reach.proofs.Lasting.{frame_depths}
use Rattle.reach.proofs.Reachability.{beyond}
use Rattle.sets.specs.Sets.{has, shafts_in, shaft_at, times_in, Disjoint}
use Rattle.sets.proofs.RowLaws.{times_append}
use Rattle.sets.proofs.SetLaws.{by_test, shaft_placed, placed_shaft}
use Rattle.parts.specs.Parts.{part}
use Rattle.parts.specs.PartOf.{named, outward, PartOf}
use Rattle.parts.proofs.PartLaws.{part_is_lem, part_alone, none_named}
use Rattle.within.specs.Within.{Each, none, more, ReachableApart, InTurn}
use Rattle.within.specs.Rules.{SameElsewhere, EachReachable}
use Rattle.within.proofs.Lists.{each_so, inner, outer}
use Rattle.within.proofs.Turns.{turn_more}
use Rattle.within.proofs.RowTimes.{in_one, in_few, in_below, in_one_together}

-- a list none of whose lifts touches a shaft leaves it as it is
untouched : {s t : Store} {bs : List ℕ} (x : ℕ) → Shaped s → Leads s bs t → Each (λ b. (x ≡ left b → ⊥) × (x ≡ entered b → ⊥)) bs → stack s x ≡ stack t x
untouched x p ended none = refl
untouched x p (then {s} {t} {b} {bs} k l) (more n es) =
    sym ((lift_step s (left b) (entered b) p k).kept x n.0 n.1) ∙ untouched x (lifted_shaped s (left b) (entered b) p k) l es

-- what a list without a lift between sets of a row shows
module _ {row : List ℕ} {s t : Store} (p : Shaped s) (d : Disjoint s.m row) (r : ReachableApart row s t) where
  apart_elsewhere : SameElsewhere row s t
  apart_elsewhere x h z =
      untouched x p r.leads
      (each_so (λ b o. (
        λ e. omega (arith, z, in_one row x o.place o.there (ap (has (get_or row o.place 0)) e ∙ o.inside.0)),
        λ e. omega (arith, z, in_one row x o.place o.there (ap (has (get_or row o.place 0)) e ∙ o.inside.1)),
      ))
      r.apart)

  apart_each : (i : ℕ) → i < length row → Reachable (part (get_or row i 0) s) (part (get_or row i 0) t)
  apart_each i h =
      let g = get_or row i 0 in
      let n = inner g p (part g s) (part_is_lem g s p) r.leads (each_so (in_one_together s.m row d i h) r.apart) in
      let e : n.end ≡ part g t = part_alone n.part (part_is_lem g t (leads_shaped p r.leads)) in
      record { lifts = n.lifts; leads = subst (Leads (part g s) n.lifts) e n.leads }

  pub apart_reachable : EachReachable row s t
  apart_reachable = record { elsewhere = apart_elsewhere; each = apart_each }

-- the shafts of a row are as in t, the others as in s
pub record Mixed (row : List ℕ) (s t u : Store) : Type 0 where
  pub shaped : Shaped u
  pub frame : SameFrame s u
  pub done : (x : ℕ) → 0 < times_in row x → stack u x ≡ stack t x
  pub left : (x : ℕ) → times_in row x ≡ 0 → stack u x ≡ stack s x

-- a list led from s to u, with the lifts of each set of the row in turn
pub record Arrived (row : List ℕ) (s t u : Store) (lifts : List ℕ) : Type 0 where
  pub leads : Leads s lifts u
  pub turn : InTurn row lifts
  pub mixed : Mixed row s t u

pub arrived_none : {s : Store} (t : Store) → Shaped s → Arrived [] s t s []
unfolding times_in
arrived_none t p = record {
  leads = ended;
  turn = none;
  mixed = record { shaped = p; frame = record { shafts = refl; depths = refl }; done = λ x h. absurd (omega arith); left = λ x h. refl };
}

module _ {row : List ℕ} {s t u : Store} {lifts : List ℕ} (g : ℕ) (p : Comparable s t) (d : Disjoint s.m (row ++ (g ∷ []))) (a : Arrived row s t u lifts) where
  s_shaped : Shaped s
  s_shaped = accepted_shaped s p.start

  t_shaped : Shaped t
  t_shaped = accepted_shaped t p.goal

  times : (x : ℕ) → times_in (row ++ (g ∷ [])) x ≡ times_in row x + one (has g x)
  unfolding times_in
  times x = omega (arith, times_append row (g ∷ []) x)

  u_shafts : u.m ≡ s.m
  u_shafts = sym a.mixed.frame.shafts

  -- a shaft of the set is not done
  not_done : (x : ℕ) → has g x ≡ true → times_in row x ≡ 0
  not_done x e = omega (arith, in_few s.m (row ++ (g ∷ [])) d x, times x, ap one e)

  -- its part is still as it was
  pub still_part : PartOf g u (part g s)
  still_part =
      let q = part_is_lem g s s_shaped in
      let same : (i : ℕ) → named g u i ≡ named g s i = λ i. ap (λ (m : ℕ). shaft_at (shafts_in g m) i) u_shafts in
      record {
        shaped = q.shaped;
        shafts = q.shafts ∙ ap (λ (m : ℕ). length (shafts_in g m)) (sym u_shafts);
        depths = λ i. q.depths i ∙ cc (frame_depths a.mixed.frame, same i);
        stacks = λ i. q.stacks i ∙ sym (ap (stack u) (same i) ∙ elim (dec_lt i (length (shafts_in g s.m))) [
          | yes l ↦ a.mixed.left (named g s i) (not_done (named g s i) (placed_shaft g s.m i l).in_set)
          | no l ↦ a.mixed.left (named g s i) (elim (ℕ_discrete (times_in row (named g s i)) 0) [
            | yes z ↦ z
            | no z ↦ absurd (omega (arith, in_below s.m (row ++ (g ∷ [])) d (named g s i) (omega (arith, times (named g s i))), none_named g s s_shaped i (omega arith), s_shaped.shafts))
          ])
        ]);
      }

  -- and a list that brings it to the goal's goes on
  pub arrived_more : {bs : List ℕ} → (l : Leads (part g s) bs (part g t)) → let o = outer g u a.mixed.shaped still_part l in
      Arrived (row ++ (g ∷ [])) s t o.end (lifts ++ map (outward g u) bs)
  arrived_more {bs} l =
      let o = outer g u a.mixed.shaped still_part l in
      let f = leads_frame o.leads in
      let q = part_is_lem g t t_shaped in
      record {
        leads = leads_then a.leads o.leads;
        turn = turn_more g a.turn o.inside;
        mixed = record {
          shaped = leads_shaped a.mixed.shaped o.leads;
          frame = record { shafts = a.mixed.frame.shafts ∙ f.shafts; depths = a.mixed.frame.depths ∙ f.depths };
          done = λ x h. by_test (has g x)
              (λ e.
              let b : x < s.m = in_below s.m (row ++ (g ∷ [])) d x h in
              let v = shaft_placed g x o.end.m (omega (arith, u_shafts, f.shafts)) e in
              let w = shaft_placed g x t.m (omega (arith, p.frame.shafts)) e in
              sym (ap (stack o.end) v.1) ∙ sym (o.part.stacks (length (shafts_in g x))) ∙ q.stacks (length (shafts_in g x)) ∙ ap (stack t) w.1)
              (λ e. o.outside x e ∙ a.mixed.done x (omega (arith, times x, ap one e)));
          left = λ x h. by_test (has g x)
              (λ e. absurd (omega (arith, times x, ap one e)))
              (λ e. o.outside x e ∙ a.mixed.left x (omega (arith, times x, ap one e)));
        };
      }

-- where the shafts of no set are the same, what is arrived at is the goal
pub arrived_goal : {row : List ℕ} {s t u : Store} {lifts : List ℕ} → Comparable s t → SameElsewhere row s t → Arrived row s t u lifts → u ≡ t
arrived_goal {row} {s} {t} {u} p e a =
    let f = a.mixed.frame in
    same_stacks u t a.mixed.shaped (accepted_shaped t p.goal)
    (record { shafts = sym f.shafts ∙ p.frame.shafts; depths = sym f.depths ∙ p.frame.depths })
    (λ x. elim (ℕ_discrete (times_in row x) 0) [
      | yes z ↦ a.mixed.left x z ∙ elim (dec_lt x s.m) [ yes h ↦ e x h z | no h ↦ beyond s t p x (omega arith) ]
      | no z ↦ a.mixed.done x (omega arith)
    ])
