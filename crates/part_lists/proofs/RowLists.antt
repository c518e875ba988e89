-- The list for a row of sets as it grows, set by set: what it has done, that it stays within the list space, and that it leads to the goal.
use mathlib.Core.Bool.{Bool, true, false, cond}
use mathlib.Core.List.{List, [], ◌++◌, map, append-nil}
use mathlib.Core.Path.{◌≡◌, refl, sym, ap, ◌∙◌, subst, subst₂}
use Prim.Native.Nat.{ℕ, suc, ◌+◌, ◌*◌, ◌-◌, ◌≤◌, ◌<◌}
use native.Mathlib.Nat.{zero-mul, one-mul, add-mul, mul-add, mul-le-mul}
use native.Mathlib.Omega.{arith}
use lib.ListN.{length, get_or, take, drop, length-append, length-map, length-drop, drop_of_length-le}
use lib.Seq.{take-suc, take_all, take-length, drop-drop}
use Rattle.stacks.specs.Count.{sum, one}
use Rattle.stacks.proofs.Sums.{sum_le, sum_equal, sum_add}
use Rattle.lifts.specs.Bytes.{left, entered, lift_byte}
use Rattle.depths.specs.Depths.{space_for}
use Rattle.store.specs.declared.Store.{Store}
use Rattle.store.specs.Lists.{Leads}
use Rattle.store.specs.Slots.{deepest, height, cassette_count, list_space}
use Rattle.store.proofs.Acceptance.{accepted_shaped}
use Rattle.store.proofs.Counted.{heights_counted}
use Rattle.moves.specs.Written.{written}
use Rattle.moves.proofs.Writing.{written_nothing, length_written, followed}
use Rattle.reach.specs.Pairs.{Comparable}
use Rattle.sets.specs.Sets.{has, shafts_in, shaft_at, times_in, Disjoint}
use Rattle.sets.proofs.RowLaws.{times_more}
use Rattle.parts.specs.Parts.{part}
use Rattle.parts.specs.PartOf.{outward}
use Rattle.within.specs.Rules.{EachReachable}
use Rattle.within.proofs.Groups.{disjoint_first, disjoint_more}
use Rattle.within.proofs.Parted.{part_count, part_deepest}
use Rattle.within.proofs.RowTimes.{in_few}
use Rattle.within.proofs.Lists.{outer}
use Rattle.within.proofs.Rows.{Arrived, arrived_none, still_part, arrived_more, arrived_goal}
use Rattle.part_lists.specs.PartLists.{PartMade, RowMade}
use Rattle.part_lists.proofs.Renaming.{written_first}

-- a list written in a part of the lent bytes, from a place on
part_written : (l : List ℕ) (at : ℕ) (own : List ℕ) {ys : List ℕ} → ys ≡ written (take (length l - at) (drop at l)) 0 own → at + length own ≤ length l
    → take at l ++ (ys ++ drop (length l - at) (drop at l)) ≡ written l at own
unfolding written
part_written l at own {ys} e h =
    let whole : take (length l - at) (drop at l) ≡ drop at l = take_all (length l - at) (drop at l) (omega (arith, length-drop at l)) in
    let end : drop (length l - at) (drop at l) ≡ [] = drop_of_length-le (drop at l) {i = length l - at} (omega (arith, length-drop at l)) in
    let own-end : ys ≡ own ++ drop (at + length own) l = e ∙ written_first _ own ∙ ap (λ (w : List ℕ). own ++ drop (length own) w) whole ∙ ap (λ (w : List ℕ). own ++ w) (drop-drop (length own) at l) in
    ap (λ (w : List ℕ). take at l ++ (ys ++ w)) end ∙ ap (λ (w : List ℕ). take at l ++ w) (append-nil ys ∙ own-end)

-- how many cassettes stand in the shafts of a row of sets
pub cassettes_in : Store → List ℕ → ℕ
cassettes_in s row = sum s.m (λ x. times_in row x * height s x)

-- the lifts of the first k sets are written
pub record SoFar (s t : Store) (row came : List ℕ) (k n : ℕ) (out : List ℕ) : Type 0 where
  pub mid : Store
  pub lifts : List ℕ
  pub arrived : Arrived (take k row) s t mid lifts
  pub count : n ≡ length lifts
  pub bytes : out ≡ written came 0 lifts
  pub few : n ≤ space_for (deepest s) (cassettes_in s (take k row))
  pub nothing : s ≡ t → n ≡ 0

space_adds : (h a b : ℕ) → space_for h (a + b) ≡ space_for h a + space_for h b
space_adds h a b = omega (arith, mul-add (4 * h) a b)

space_grows : {h k a b : ℕ} → h ≤ k → a ≤ b → space_for h a ≤ space_for k b
space_grows {h} {k} {a} {b} p q = let more : 4 * h * a ≤ 4 * k * b = mul-le-mul (omega arith) q in omega arith

module _ (s t : Store) (p : Comparable s t) where
  -- the list space of a part
  part_space : (g : ℕ) → list_space (part g s) ≤ space_for (deepest s) (cassette_count (part g s))
  unfolding list_space
  part_space g = space_grows (part_deepest g s p.start) (omega arith)

  module _ (row : List ℕ) (d : Disjoint s.m row) where
    -- a set more
    cassettes_more : (k : ℕ) → k < length row → cassettes_in s (take (suc k) row) ≡ cassettes_in s (take k row) + cassette_count (part (get_or row k 0) s)
    unfolding cassettes_in
    cassettes_more k h =
        let g = get_or row k 0 in
        let each : (x : ℕ) → times_in (take (suc k) row) x * height s x ≡ times_in (take k row) x * height s x + cond (has g x) (height s x) 0
        = λ x. ap (λ (n : ℕ). n * height s x) (times_more row x k h) ∙ add-mul (times_in (take k row) x) (one (has g x)) (height s x)
        ∙ ap (λ (n : ℕ). times_in (take k row) x * height s x + n) (once (has g x) (height s x)) in
        sum_equal s.m _ _ (λ x _. each x) ∙ sum_add s.m (λ x. times_in (take k row) x * height s x) (λ x. cond (has g x) (height s x) 0)
        ∙ ap (λ (n : ℕ). sum s.m (λ x. times_in (take k row) x * height s x) + n) (sym (part_count g s p.start))
      where
        once : (b : Bool) (n : ℕ) → one b * n ≡ cond b n 0
        once true n = one-mul n
        once false n = zero-mul n

    -- no more than the store has
    cassettes_most : (k : ℕ) → cassettes_in s (take k row) ≤ cassette_count s
    unfolding cassettes_in
    cassettes_most k =
        omega (arith, heights_counted s, sum_le s.m (λ x. times_in (take k row) x * height s x) (height s) (λ x _. few (height s x) (in_few s.m (take k row) (disjoint_first s.m row k d) x)))
      where
        few : {n : ℕ} (h : ℕ) → n ≤ 1 → n * h ≤ h
        few {n} h q = let more : n * h ≤ 1 * h = mul-le-mul q (omega arith) in omega (arith, one-mul h)

    module _ (came : List ℕ) (room : list_space s ≤ length came) where
      pub none_yet : SoFar s t row came 0 0 came
      none_yet = record {
        mid = s;
        lifts = [];
        arrived = arrived_none t (accepted_shaped s p.start);
        count = refl;
        bytes = sym (written_nothing came 0);
        few = omega arith;
        nothing = λ e. refl;
      }

      module _ {k n : ℕ} {out : List ℕ} (f : SoFar s t row came k n out) where
        pub few_yet : n ≤ list_space s
        unfolding list_space
        few_yet = omega (arith, f.few, space_grows {h = deepest s} {k = deepest s} (omega arith) (cassettes_most k))

        pub sized_yet : length out ≡ length came
        sized_yet = ap length f.bytes ∙ length_written came 0 f.lifts (omega (arith, few_yet, f.count))

        module _ (h : k < length row) where
          -- n and what the next set may take
          next_few : n + list_space (part (get_or row k 0) s) ≤ space_for (deepest s) (cassettes_in s (take (suc k) row))
          next_few =
              omega (
                arith,
                f.few,
                part_space (get_or row k 0),
                ap (space_for (deepest s)) (cassettes_more k h),
                space_adds (deepest s) (cassettes_in s (take k row)) (cassette_count (part (get_or row k 0) s)),
              )

          pub next_most : n + list_space (part (get_or row k 0) s) ≤ list_space s
          unfolding list_space
          next_most = omega (arith, next_few, space_grows {h = deepest s} {k = deepest s} (omega arith) (cassettes_most (suc k)))

          pub next_room : n + list_space (part (get_or row k 0) s) ≤ length out
          next_room = omega (arith, next_most, sized_yet)

          pub one_more : {v : ℕ} {ys : List ℕ} → PartMade (get_or row k 0) s t (take (length out - n) (drop n out)) v ys
              → SoFar s t row came (suc k) (n + v) (take n out ++ (ys ++ drop (length out - n) (drop n out)))
          one_more {v} {ys} m =
              let g = get_or row k 0 in
              let u = f.mid in
              let names : map (outward g u) m.lifts ≡ map (outward g s) m.lifts
              = ap (λ (j : ℕ). map (λ b. lift_byte (shaft_at (shafts_in g j) (left b)) (shaft_at (shafts_in g j) (entered b))) m.lifts) (sym f.arrived.mixed.frame.shafts) in
              let own : List ℕ = map (outward g s) m.lifts in
              let long : v ≡ length own = m.count ∙ sym (length-map m.lifts (outward g s)) in
              record {
                mid = (outer g u f.arrived.mixed.shaped (still_part g p (disjoint_more s.m row k d h) f.arrived) m.leads).end;
                lifts = f.lifts ++ own;
                arrived = subst₂ (λ (r l : List ℕ). Arrived r s t (outer g u f.arrived.mixed.shaped (still_part g p (disjoint_more s.m row k d h) f.arrived) m.leads).end (f.lifts ++ l)) (sym (take-suc row k 0 h)) names
                    (arrived_more g p (disjoint_more s.m row k d h) f.arrived m.leads);
                count = omega (arith, f.count, long, length-append f.lifts own);
                bytes = followed came 0 f.lifts own f.bytes (omega (arith, f.count)) (part_written out n own m.bytes (omega (arith, next_room, m.short, long)))
                    (omega (arith, next_room, m.short, long, sized_yet));
                few = omega (arith, next_few, m.short);
                nothing = λ e. omega (arith, f.nothing e, m.nothing e);
              }

        pub all_made : EachReachable row s t → k ≡ length row → RowMade row s t came n out
        all_made r e =
            let a : Arrived row s t f.mid f.lifts = subst (λ (l : List ℕ). Arrived l s t f.mid f.lifts) (ap (λ (j : ℕ). take j row) e ∙ take-length row) f.arrived in
            record {
              lifts = f.lifts;
              leads = subst (Leads s f.lifts) (arrived_goal p r.elsewhere a) a.leads;
              turn = a.turn;
              count = f.count;
              short = few_yet;
              bytes = f.bytes;
              nothing = f.nothing;
            }
