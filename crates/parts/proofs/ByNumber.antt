-- The store of some shafts, as it is put together by their new numbers.
use mathlib.Core.List.{List}
use mathlib.Core.Path.{◌≡◌, ap, ◌∙◌}
use Prim.Native.Nat.{ℕ, suc, ◌/◌, ◌%◌}
use native.Mathlib.Omega.{arith}
use lib.ListN.{get_or}
use Rattle.lifts.specs.Lifting.{most_shafts, slot_count, height_in, shown}
use Rattle.depths.specs.Depths.{depth_by}
use Rattle.depths.proofs.DepthLaws.{depth_read}
use Rattle.store.specs.declared.Store.{Store}
use Rattle.store.specs.Slots.{held}
use Rattle.sets.specs.declared.Numbering.{Numbering}
use Rattle.sets.specs.Sets.{shaft_at, NumberingIs}
use Rattle.parts.specs.Parts.{tabulated, part_over}
use Rattle.parts.proofs.Tabulated.{tabulated_same}

pub renumbered_part : (s : Store) (shafts : List ℕ) (r : Numbering) → NumberingIs shafts r → {depths heights slots : List ℕ}
    → depths ≡ tabulated most_shafts (λ i. get_or s.depths (get_or r.names i 0) 0)
    → heights ≡ tabulated most_shafts (λ i. get_or s.heights (get_or r.names i 0) 0)
    → slots ≡ tabulated slot_count (λ p. shown s.slots (get_or r.names (p / 16) 0) (suc (p % 16)))
    → held r.count depths heights slots ≡ part_over shafts s
unfolding part_over
renumbered_part s shafts r p {depths} {heights} {slots} d h l =
    let d' : depths ≡ tabulated most_shafts (λ i. depth_by s.depths (shaft_at shafts i)) =
    d ∙ tabulated_same _ _ most_shafts (λ i j. depth_read s.depths _ ∙ ap (depth_by s.depths) (p.names i j)) in
    let h' : heights ≡ tabulated most_shafts (λ i. height_in s.heights (shaft_at shafts i)) =
    h ∙ tabulated_same _ _ most_shafts (λ i j. ap (height_in s.heights) (p.names i j)) in
    let l' : slots ≡ tabulated slot_count (λ q. shown s.slots (shaft_at shafts (q / 16)) (suc (q % 16))) =
    l ∙ tabulated_same _ _ slot_count (λ q j. ap (λ (x : ℕ). shown s.slots x (suc (q % 16))) (p.names (q / 16) (omega arith))) in
    λ i. record { m = p.count i; depths = d' i; heights = h' i; slots = l' i }
