-- `equal` meets its contract: the first m depths are filled with h, and the others stay none.
use mathlib.Core.List.{◌++◌}
use mathlib.Core.Path.{◌≡◌, ◌∙◌}
use Prim.Native.Nat.{ℕ, ◌+◌, ◌-◌, ◌≤◌, ◌<◌}
use borrow.Author.Rules.{rules}
use native.Mathlib.Omega.{arith}
use lib.ListN.{get_or, replicate, drop, get_or-append, length-replicate}
use Rattle.std.proofs.lemmas.List.{get_or-replicate, get_or-append_right, get_or-drop}
use Rattle.marks.proofs.MarkLaws.{zeros}
use Rattle.lifts.specs.Lifting.{most_shafts}
use Rattle.depths.specs.Depths.{depth_by}
use Rattle.depths.proofs.equal.Goals as goal

-- k numbers h, and then those of n zeros that are left
module _ (n k h y : ℕ) where
  filled : y < k → get_or (replicate k h ++ drop k (replicate n 0)) y 0 ≡ h
  filled i = get_or-append (replicate k h) (drop k (replicate n 0)) 0 y (omega (arith, length-replicate {A = ℕ} k h)) ∙ get_or-replicate k y h 0 i

  unfilled : k ≤ y → get_or (replicate k h ++ drop k (replicate n 0)) y 0 ≡ 0
  unfilled i =
      get_or-append_right (replicate k h) (drop k (replicate n 0)) k y 0 (length-replicate k h) i
      ∙ get_or-drop k (replicate n 0) (y - k) 0
      ∙ zeros n (k + (y - k))

pub returns : goal.returns
unfolding depth_by
returns c =
    let after = c.fill.ensures.after (λ y e. e) in
    let e : c.fill.new.self ≡ replicate c.shafts_of.result c.args.h = search rules in
    rw e (record {
      below = λ x i j. filled most_shafts c.shafts_of.result c.args.h x (omega (arith, c.shafts_of.ensures));
      beyond = λ x i. unfilled most_shafts c.shafts_of.result c.args.h x (omega (arith, c.shafts_of.ensures));
    })
