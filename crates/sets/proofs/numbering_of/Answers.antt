-- `numbering_of` meets its contract. The invariant: the shafts passed that are in the set have their numbers, and no other number is given.
use mathlib.Core.Path.{◌≡◌, refl, ap, ◌∙◌}
use Prim.Native.Nat.{ℕ}
use native.Mathlib.Numerals.{add-one}
use native.Mathlib.Omega.{arith}
use lib.ListN.{length, get_or-replicate}
use Rattle.sets.specs.Sets.{shafts_in, shaft_at}
use Rattle.sets.proofs.SetLaws.{shafts_few, numbered_more}
use Rattle.sets.proofs.numbering_of.Goals as goal

pub loop-x-init : goal.loop-x-init
unfolding shafts_in
loop-x-init c = (refl, refl, λ i h. get_or-replicate 16 i 16 0 h)

pub number_next-count-requires : goal.number_next-count-requires
number_next-count-requires c =
    let l = c.loop-x in
    (omega (arith, c.requires), omega (arith, l.invariant.1, shafts_few c.args.set l.x, c.requires))

pub loop-x-preserved : goal.loop-x-preserved
loop-x-preserved c =
    let l = c.loop-x in
    let a = c.args in
    let n = numbered_more a.set l.x l.names l.count l.invariant.0 l.invariant.1 l.invariant.2 (omega (arith, l.invariant.1, shafts_few a.set l.x, c.requires)) in
    rw (c.number_next-count.ensures.1, c.number_next-count.ensures.0) (n.0, rw add-one n.1.0, rw add-one n.1.1)

pub overflow_cast-result : goal.overflow_cast-result
overflow_cast-result c = let l = c.loop-x in omega (arith, l.invariant.1, shafts_few c.args.set l.x)

pub returns : goal.returns
returns c =
    let l = c.loop-x in
    let a = c.args in
    let e : l.x ≡ a.m = omega arith in
    record { count = l.invariant.1 ∙ ap (λ (k : ℕ). length (shafts_in a.set k)) e; sized = l.invariant.0; names = λ i h. l.invariant.2 i h ∙ ap (λ (k : ℕ). shaft_at (shafts_in a.set k) i) e }
