-- The depths as they stand in their list, past its end, and lists of equal depths.
use mathlib.Core.List.{List}
use mathlib.Core.Path.{◌≡◌, refl, sym, ◌∙◌}
use Prim.Native.Nat.{ℕ, ◌≤◌, ◌<◌}
use native.Mathlib.Omega.{arith}
use lib.ListN.{length, get_or, get_or-eq_default}
use lib.Seq.{ext_get_or}
use Rattle.lifts.specs.Lifting.{most_shafts}
use Rattle.depths.specs.Depths.{depth_by}

pub depth_read : (depths : List ℕ) (x : ℕ) → get_or depths x 0 ≡ depth_by depths x
unfolding depth_by
depth_read depths x = refl

pub depth_past : (depths : List ℕ) (x : ℕ) → length depths ≤ x → depth_by depths x ≡ 0
unfolding depth_by
depth_past depths x h = get_or-eq_default depths 0 h

pub depths_same : (a b : List ℕ) → length a ≡ most_shafts → length b ≡ most_shafts → ((x : ℕ) → x < most_shafts → depth_by a x ≡ depth_by b x) → a ≡ b
unfolding depth_by
depths_same a b p q h = ext_get_or 0 a b (p ∙ sym q) (λ i k. h i (omega arith))
