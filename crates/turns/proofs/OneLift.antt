-- One legal lift is a legal list.
use mathlib.Core.List.{[], ◌∷◌}
use Prim.Native.Nat.{ℕ}
use Rattle.stacks.specs.Run.{Stacks, Lift, Step, Run, done, step}

pub run_one : {m : ℕ} {d : ℕ → ℕ} {l : Lift} {S T : Stacks} → Step m d l S T → Run m d S (l ∷ []) T
run_one s = step s done
