-- Where a cassette stands: the last test, and that it stands nowhere where no place has it.
use mathlib.Core.List.{List}
use mathlib.Core.Path.{◌≡◌}
use Prim.Native.Nat.{ℕ, zero, suc, ◌+◌, ◌-◌, ◌*◌, ◌/◌, ◌%◌, ◌≤◌, ◌<◌}
use native.Mathlib.Omega.{arith}
use borrow.Author.Tests.{eqb-true, eq-eqb}
use lib.Dec.{eqb}
use lib.ListN.{get_or}
use Rattle.stacks.specs.Run.{Usable}
use Rattle.stacks.specs.Deciding.{Decides}
use Rattle.stacks.proofs.Deciding.{decides_by}
use Rattle.rooms.specs.declared.Frame.{Frame}
use Rattle.lifts.specs.Lifting.{height_in, shown}
use Rattle.rooms.specs.Frames.{Fits}
use Rattle.finding.specs.Finding.{Stands}

module _ (f : Frame) (heights slots done : List ℕ) (v : ℕ) where
  -- the last test: whether the slot shows v
  pub slot_tested : (x y : ℕ) → Usable f.m x → height_in done x < y → y ≤ height_in heights x
      → Decides (eqb (get_or slots (16 * x + (y - 1)) 0) v) (Stands f heights slots done v x y)
  unfolding shown
  slot_tested x zero u p q = absurd (omega arith)
  slot_tested x (suc k) u p q =
      let e : suc k - 1 ≡ k = omega arith in
      rw e
      (decides_by (eqb (get_or slots (16 * x + k) 0) v)
      (λ t. record { usable = u; unpassed = p; standing = q; shows = eqb-true _ _ t })
      (λ s. eq-eqb _ _ s.shows))

  -- v does not stand at place p, of 16 to a shaft
  abbrev pub NotAt : ℕ → Type 0
  NotAt p = Stands f heights slots done v (p / 16) (p % 16 + 1) → ⊥

  -- and so nowhere
  pub nowhere : Fits f heights → ((p : ℕ) → p ≤ 255 → NotAt p) → (x y : ℕ) → Stands f heights slots done v x y → ⊥
  nowhere fits none x zero s = omega (arith, s.unpassed)
  nowhere fits none x (suc k) s =
      let p = 16 * x + k in
      let a : x < 16 = omega (arith, s.usable, fits.shafts) in
      let b : k < 16 = omega (arith, s.standing, fits.within x, fits.rows x) in
      let ex : p / 16 ≡ x = omega arith in
      let ey : p % 16 + 1 ≡ suc k = omega arith in
      none p (omega arith) (rw (ex, ey) s)
