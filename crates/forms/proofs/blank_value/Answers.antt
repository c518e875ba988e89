-- `blank_value` meets its contract: fewer than 16 bits hold a power of two.
use mathlib.Core.Path.{ap}
use Prim.Native.Nat.{ℕ, ◌-◌}
use lib.Pow.{pow_pos}
use Rattle.forms.proofs.Shifts.{one_bit}
use Rattle.forms.proofs.blank_value.Goals as goal

pub overflow_sub-result : goal.overflow_sub-result
overflow_sub-result c = rw (one_bit c.args.w c.requires) (pow_pos c.args.w)

pub returns : goal.returns
returns c = ap (λ (n : ℕ). n - 1) (one_bit c.args.w c.requires)
