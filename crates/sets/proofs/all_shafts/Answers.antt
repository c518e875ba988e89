-- `all_shafts` meets its contract.
use mathlib.Core.Path.{◌≡◌, subst}
use Prim.Native.Nat.{ℕ, ◌-◌}
use native.Mathlib.Omega.{arith}
use lib.Pow.{shr_le}
use Rattle.sets.specs.Sets.{AllOf}
use Rattle.sets.proofs.AllShafts.{ones_all}
use Rattle.sets.proofs.all_shafts.Goals as goal

pub returns-then-m-ge16 : goal.returns-then-m-ge16
returns-then-m-ge16 c =
    let all : AllOf 16 65535 = ones_all 16 (omega arith) in
    (λ h. let e : 16 ≡ c.args.m = omega (arith, c.if-m-ge16.true) in subst (λ (m : ℕ). AllOf m 65535) e all, λ h. all)

pub overflow_cast-result-2 : goal.overflow_cast-result-2
overflow_cast-result-2 c = omega (arith, shr_le 65535 (16 - c.args.m))

pub returns : goal.returns
returns c = (ones_all c.args.m, λ h. absurd (omega (arith, c.if-m-ge16.false)))
