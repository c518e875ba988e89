-- The bytes of a shift.
use mathlib.Core.List.{List, ◌∷◌}
use mathlib.Core.Path.{◌≡◌, refl, ap}
use Prim.Native.Nat.{ℕ, zero, suc}
use lib.ListN.{replicate}
use Rattle.stacks.specs.Moves.{shift}
use Rattle.store.specs.Lists.{lift_bytes}
use Rattle.lifts.specs.Bytes.{lift_byte}

pub shift_bytes : (k a b : ℕ) → lift_bytes (shift k a b) ≡ replicate k (lift_byte a b)
shift_bytes zero a b = refl
shift_bytes (suc k) a b = ap {B = List ℕ} (λ l. lift_byte a b ∷ l) (shift_bytes k a b)
