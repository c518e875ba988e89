-- No fault of a store has the number 0, and none has one above 12.
use mathlib.Core.Path.{◌≡◌}
use Prim.Native.Nat.{◌≤◌, ◌<◌}
use native.Mathlib.Omega.{arith}
use Rattle.store.specs.declared.Fault.{Fault}
use Rattle.store.specs.declared.Fault.TheVariants.{OutOfPlace, TooHigh, NoCassette, Twice}
use Rattle.store.specs.Numbers.{fault_number}

fault_range : (f : Fault) → (0 < fault_number f) × (fault_number f ≤ 12)
fault_range OutOfPlace = omega arith
fault_range TooHigh = omega arith
fault_range NoCassette = omega arith
fault_range Twice = omega arith

pub fault_one : (f : Fault) → fault_number f ≡ 0 → ⊥
fault_one f e = omega (arith, fault_range f)

pub fault_most : (f : Fault) → fault_number f ≤ 12
fault_most f = (fault_range f).1
