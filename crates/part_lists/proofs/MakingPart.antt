-- The list for the shafts of a set: what making it asks for, and what was made.
use mathlib.Core.List.{List, []}
use mathlib.Core.Path.{◌≡◌, refl, sym, ap, ◌∙◌, subst, subst₂}
use Prim.Native.Nat.{ℕ, ◌≤◌, ◌<◌}
use native.Mathlib.Omega.{arith}
use lib.ListN.{length}
use Rattle.store.specs.declared.Store.{Store}
use Rattle.store.specs.Lists.{Leads, ended, Reachable}
use Rattle.store.specs.Slots.{list_space}
use Rattle.store.proofs.Acceptance.{accepted_shaped}
use Rattle.moves.specs.Written.{written}
use Rattle.moves.proofs.Writing.{written_nothing, length_written}
use Rattle.reach.specs.Pairs.{Comparable}
use Rattle.reach.specs.Rules.{Rule}
use Rattle.reach.proofs.Reachability.{reachable_rule}
use Rattle.sets.specs.declared.Numbering.{Numbering}
use Rattle.sets.specs.Sets.{shafts_in, NumberingIs}
use Rattle.parts.specs.Parts.{part}
use Rattle.parts.proofs.PartLaws.{part_is_lem}
use Rattle.within.proofs.Parted.{part_comparable, none_same, part_cassettes}
use Rattle.making.specs.Made.{MadeIs}
use Rattle.part_lists.specs.PartLists.{renamed, PartMade}
use Rattle.part_lists.proofs.Renaming.{renamed_to, written_renamed, names_right}

module _ (some : ℕ) (s t : Store) (p : Comparable s t) where
  pub none_made : (came : List ℕ) → (part some s).m ≡ 0 → PartMade some s t came 0 came
  none_made came z = record {
    lifts = [];
    leads = subst (Leads (part some s) []) (none_same some s t p z) ended;
    count = refl;
    short = omega arith;
    bytes = sym (written_nothing came 0);
    nothing = λ e. refl;
  }

  module _ {u v : Store} (a : u ≡ part some s) (b : v ≡ part some t) where
    -- what making asks for
    pub make_ready : {n : ℕ} → (u.m ≡ 0 → ⊥) → Reachable (part some s) (part some t) → list_space (part some s) ≤ n → Comparable u v × (Rule u v × (list_space u ≤ n))
    make_ready {n} z r h =
        let c : Comparable (part some s) (part some t) = part_comparable some s t p (nonzero (λ e. z (ap (λ (w : Store). w.m) a ∙ e))) (part_cassettes some s t p r) in (
          subst₂ Comparable (sym a) (sym b) c,
          (subst₂ Rule (sym a) (sym b) (reachable_rule (part some s) (part some t) c r), subst (λ (w : Store). list_space w ≤ n) (sym a) h),
        )
      where
        nonzero : {k : ℕ} → (k ≡ 0 → ⊥) → 0 < k
        nonzero f = omega arith

    -- it fits in the lent bytes
    pub made_fits : {came out : List ℕ} {count : ℕ} → MadeIs u v came count out → list_space (part some s) ≤ length came → count ≤ length out
    made_fits {came} {out} {count} m h =
        let few : count ≤ list_space (part some s) = subst (λ (w : Store). count ≤ list_space w) a m.short in
        omega (arith, few, ap length m.steps.bytes, length_written came 0 m.steps.lifts (omega (arith, few, m.steps.count)))

    -- what was made, renamed
    pub part_made : {came out : List ℕ} {count : ℕ} (r : Numbering) → NumberingIs (shafts_in some s.m) r → MadeIs u v came count out
        → PartMade some s t came count (renamed_to (renamed r.names) out count)
    part_made {came} {out} {count} r n m =
        let l = m.steps.lifts in
        let leads : Leads (part some s) l (part some t) = subst₂ (λ (w z : Store). Leads w l z) a b m.steps.leads in
        let long : count ≡ length l = omega (arith, m.steps.count) in
        let q = part_is_lem some s (accepted_shaped s p.start) in
        record {
          lifts = l;
          leads = leads;
          count = long;
          short = subst (λ (w : Store). count ≤ list_space w) a m.short;
          bytes = ap (λ (w : List ℕ). renamed_to (renamed r.names) w count) m.steps.bytes ∙ written_renamed (renamed r.names) came l long
              ∙ ap (written came 0) (names_right some s r (accepted_shaped s p.start).shafts n q.shafts leads);
          nothing = λ e. m.nothing (a ∙ ap (part some) e ∙ sym b);
        }
