-- `push` meets its contract: by each of the two tests, a whole byte is stored or there is none.
use mathlib.Core.List.{List}
use Prim.Native.Nat.{ℕ, ◌+◌, ◌<◌, ◌≤◌}
use native.Mathlib.Omega.{arith}
use lib.ListN.{length}
use Rattle.pens.proofs.Pushed.{Stores, stores_none, stores_byte, pushes_stored}
use Rattle.pens.proofs.Pen.push.Goals as goal
use Rattle.pens.proofs.Pen.push.Goals.{then-full-ge16, else-full-ge16, then-full-ge8, else-full-ge8}

-- what is stored so far, and fewer bits than n are left
abbrev Stored : goal.After-byte_of-2 → List ℕ → ℕ → ℕ → ℕ → Type 0
Stored c out at full n =
    let a = c.args in
    let x = c.append-all.result in
    (full < n) × Stores a.out.now out (record { at = a.self.at; part = x; full = a.self.full + a.w }) (record { at = at; part = x; full = full })

one : (c : goal.After-byte_of-2) → Stored c c.if-full-ge16.out c.if-full-ge16.at c.if-full-ge16.full 16
one c = elim c.if-full-ge16.branch [
  | then-full-ge16 w ↦ (omega arith, rw (w.out-is, w.at-is, w.full-is) (stores_byte _ _ _ _ _ (omega arith) (omega arith) w.byte_of.ensures (stores_none _ _)))
  | else-full-ge16 w ↦ (omega arith, rw (w.out-is, w.at-is, w.full-is) (stores_none _ _))
]

two : (c : goal.After-byte_of-2) → Stored c c.if-full-ge8.out c.if-full-ge8.at c.if-full-ge8.full 8
two c =
    let k = one c in
    let room : 8 ≤ c.if-full-ge16.full → c.if-full-ge16.at < length c.if-full-ge16.out = λ h. omega (arith, k.1.count, k.1.same_length) in
    elim c.if-full-ge8.branch [
      | then-full-ge8 w ↦ (omega arith, rw (w.out-is, w.at-is, w.full-is) (stores_byte _ _ _ _ _ w.if-full-ge8.true (room w.if-full-ge8.true) w.byte_of-then-full-ge8.ensures k.1))
      | else-full-ge8 w ↦ (omega arith, rw (w.out-is, w.at-is, w.full-is) k.1)
    ]

pub returns : goal.returns
returns c =
    let a = c.args in
    pushes_stored a.out.now _ a.self a.v a.w _ _ _ _ c.append-all.ensures c.byte_of-2.ensures (two c).0 (two c).1
