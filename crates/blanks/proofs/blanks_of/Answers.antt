-- `blanks_of` meets its contract. The invariant: n is the count of blanks in the shafts passed.
use mathlib.Core.Path.{◌≡◌, refl}
use Prim.Native.Nat.{ℕ, ◌≤◌}
use native.Mathlib.Numerals.{add-one}
use native.Mathlib.Omega.{arith}
use Rattle.stacks.specs.Count.{count}
use Rattle.lifts.specs.Lifting.{most_rows}
use Rattle.store.specs.declared.Store.{Store}
use Rattle.store.specs.Accept.{Accepted}
use Rattle.store.specs.Slots.{height, cassettes_below, cassettes}
use Rattle.store.proofs.Acceptance.{accepted_shaped}
use Rattle.blanks.proofs.Counting.{shaft_more}
use Rattle.blanks.proofs.blanks_of.Goals as goal

-- a shaft is no higher than 16 rows
few : (s : Store) (x : ℕ) → Accepted s → height s x ≤ most_rows
few s x a = let p = accepted_shaped s a in omega (arith, p.heights x, p.rows x)

pub loop-x-init : goal.loop-x-init
unfolding count cassettes_below
loop-x-init c = (refl, omega arith)

pub height_at-requires : goal.height_at-requires
height_at-requires c =
    omega (arith, (accepted_shaped _ c.requires).shafts)

pub blanks_in-n-requires : goal.blanks_in-n-requires
blanks_in-n-requires c =
    (omega (arith, (accepted_shaped _ c.requires).shafts), omega (arith, c.height_at.ensures, few c.args.s c.loop-x.x c.requires))

pub overflow_add-n : goal.overflow_add-n
overflow_add-n c =
    omega (arith, c.blanks_in-n.ensures.most, c.height_at.ensures, few c.args.s c.loop-x.x c.requires, c.loop-x.invariant.1, (accepted_shaped _ c.requires).shafts)

pub loop-x-preserved : goal.loop-x-preserved
loop-x-preserved c = (
  rw add-one (omega (arith, c.loop-x.invariant.0, shaft_more c.args.s c.loop-x.x c.height_at.ensures, c.blanks_in-n.ensures.blanks)),
  omega (arith, c.blanks_in-n.ensures.most, c.height_at.ensures, few c.args.s c.loop-x.x c.requires, c.loop-x.invariant.1),
)

pub returns : goal.returns
unfolding cassettes
returns c = let all : c.loop-x.x ≡ c.args.s.m = omega arith in rw all at c.loop-x.invariant.0
