-- How much list space an accepted store needs at most: "The list space needed is 4hn + 8n bytes" (document 01, "Which goals can be reached"), at most
-- 18,432 (request 5/13).
use Prim.Native.Nat.{◌*◌, ◌≤◌}
use native.Mathlib.Nat.{mul-le-mul}
use native.Mathlib.Omega.{arith}
use Rattle.stacks.specs.Count.{greatest}
use Rattle.stacks.proofs.Sums.{greatest_le}
use Rattle.lifts.specs.Lifting.{most_rows}
use Rattle.store.specs.declared.Store.{Store}
use Rattle.store.specs.Accept.{Accepted}
use Rattle.store.specs.Slots.{depth, deepest, list_space}
use Rattle.store.proofs.Acceptance.{accepted_sound, accepted_most}

pub list_space_most : (s : Store) → Accepted s → list_space s ≤ 18432
unfolding list_space deepest
list_space_most s e =
    let p = accepted_sound s e in
    let h : 4 * greatest s.m (depth s) ≤ 64 = omega (arith, greatest_le s.m (depth s) most_rows p.shaped.rows) in
    omega (arith, mul-le-mul h (accepted_most s e), accepted_most s e)
