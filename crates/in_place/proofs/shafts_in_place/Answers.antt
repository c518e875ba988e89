-- `shafts_in_place` meets its contract. The invariant: the shafts passed are in place.
use mathlib.Core.Path.{refl, sym, ◌∙◌}
use native.Mathlib.Numerals.{add-one}
use Rattle.lifts.specs.Lifting.{most_shafts}
use Rattle.in_place.specs.InPlace.{all_below, shaft_in_place}
use Rattle.in_place.proofs.AllBelow.{all_more, all_fails}
use Rattle.in_place.proofs.shafts_in_place.Goals as goal

pub loop-x-init : goal.loop-x-init
unfolding all_below
loop-x-init c = refl

pub returns-then-not-shaft_in_place : goal.returns-then-not-shaft_in_place
returns-then-not-shaft_in_place c =
    let a = c.args in
    sym (all_fails most_shafts (shaft_in_place a.m a.depths a.heights.now a.slots.now) c.loop-x.x c.loop-x-test.true
    (sym c.shaft_in_place.ensures ∙ c.if-not-shaft_in_place.true))

pub loop-x-preserved : goal.loop-x-preserved
loop-x-preserved c =
    let a = c.args in
    rw add-one (all_more c.loop-x.x (shaft_in_place a.m a.depths a.heights.now a.slots.now) c.loop-x.invariant
    (sym c.shaft_in_place.ensures ∙ c.if-not-shaft_in_place.false))
