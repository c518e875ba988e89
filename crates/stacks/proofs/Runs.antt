-- Legal lists compose, keep every stack within its depth, and lead back when they are turned about.
use mathlib.Core.Path.{ap, sym}
use mathlib.Core.List.{List, [], ◌++◌, map, reverse_aux}
use Prim.Native.Nat.{ℕ}
use native.Mathlib.Omega.{arith}
use lib.ListN.{length}
use Rattle.stacks.specs.Run.{Stacks, Lift, turned, Step, Run, done, step, Within}
use Rattle.stacks.proofs.Sums.{everywhere}

-- The list of the first run followed by the list of the second leads from the first start to the last end.
pub run_append : {m : ℕ} {d : ℕ → ℕ} {S T U : Stacks} {k l : List Lift} → Run m d S k T → Run m d T l U → Run m d S (k ++ l) U
run_append done q = q
run_append (step s p) q = step s (run_append p q)

-- A step keeps every stack within its depth.
pub step_within : {m : ℕ} {d : ℕ → ℕ} {l : Lift} {S T : Stacks} → Step m d l S T → Within m d S → Within m d T
step_within {l = l} s h =
    everywhere _ l.left (λ b. omega (arith, ap length s.taken, h l.left b))
    (everywhere _ l.entered (λ n b. rw s.placed s.room) (λ i e n b. rw (s.kept i n e) (h i b)))

-- A step turned about leads back.
pub step_back : {m : ℕ} {d : ℕ → ℕ} {l : Lift} {S T : Stacks} → Within m d S → Step m d l S T → Step m d (turned l) T S
step_back {l = l} h s =
    record {
      differ = λ e. s.differ (sym e);
      left_below = s.entered_below;
      entered_below = s.left_below;
      cassette = s.cassette;
      taken = s.placed;
      placed = s.taken;
      room = omega (arith, ap length s.taken, h l.left s.left_below);
      kept = λ i e n. sym (s.kept i n e);
    }

-- the list turned about: its last lift first, and each lift turned
abbrev pub back : List Lift → List Lift
back ls = reverse_aux (map turned ls) []

-- A legal list turned about leads back.
pub run_back : {m : ℕ} {d : ℕ → ℕ} {S T : Stacks} {ls : List Lift} → Within m d S → Run m d S ls T → Run m d T (back ls) S
run_back h r = onto h r done
  where
    onto : {m : ℕ} {d : ℕ → ℕ} {S T U : Stacks} {k ls : List Lift} → Within m d S → Run m d S ls T → Run m d S k U
        → Run m d T (reverse_aux (map turned ls) k) U
    onto h done q = q
    onto h (step s r) q = onto (step_within s h) r (step (step_back h s) q)
