-- The laws behind the next lift of a placement.
use mathlib.Core.Bool.{Bool, true, false}
use mathlib.Core.Path.{◌≡◌}
use Prim.Native.Nat.{ℕ, ◌+◌, ◌≤◌, ◌<◌}
use native.Mathlib.Omega.{arith}
use Rattle.stacks.specs.Placing.{Outside, Next, uncover, clear, across, away}
use Rattle.ahead.specs.declared.Ahead.{Ahead}
use Rattle.ahead.specs.Ahead.{TightIs}

-- the four lifts, by whether anything covers the cassette and whether the slot outside must be kept
module _ {m : ℕ} {d : ℕ → ℕ} {a b : ℕ} {heights : ℕ → ℕ} (n : Ahead) {r : Bool} (t : TightIs n r) where
  pub to_b : 0 < n.cover → r ≡ true → Next m d a b n.cover n.load n.outside heights a b
  to_b k e = across k (t.one e).0 (t.one e).1

  pub from_a : {c : ℕ} → 0 < n.cover → r ≡ false → Outside m d a b heights c → Next m d a b n.cover n.load n.outside heights a c
  from_a k e o = uncover k (t.spare e) o

  pub itself : {c : ℕ} → n.cover ≤ 0 → r ≡ true → Outside m d a b heights c → Next m d a b n.cover n.load n.outside heights a c
  itself k e o = away (omega arith) (t.one e).0 (omega (arith, t.one e)) o

  pub from_b : {c : ℕ} → n.cover ≤ 0 → 0 < n.cover + n.load → r ≡ false → Outside m d a b heights c → Next m d a b n.cover n.load n.outside heights b c
  from_b k z e o = clear (omega arith) (omega arith) (t.spare e) o
