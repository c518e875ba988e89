-- `is_malformed` meets its contract: each reason for 19.
use Rattle.entries.proofs.Comparing.{kind_above, shaft_past, second_past, sighting_second, lift_twice}
use Rattle.entries.proofs.is_malformed.Goals as goal

pub returns-then-e-gt1 : goal.returns-then-e-gt1
returns-then-e-gt1 c = kind_above _ _ c.if-e-gt1.true

pub returns-then-m-shaft : goal.returns-then-m-shaft
returns-then-m-shaft c = shaft_past _ _ c.if-e-gt1.false c.if-m-shaft.true

pub returns-then-m-second : goal.returns-then-m-second
returns-then-m-second c =
    second_past _ _ c.if-e-gt1.false c.if-m-shaft.false c.if-m-second.true

pub returns-then-e-eq1 : goal.returns-then-e-eq1
returns-then-e-eq1 c =
    sighting_second _ _ c.if-e-gt1.false c.if-m-shaft.false c.if-m-second.false c.if-e-eq1.true

pub returns : goal.returns
returns c =
    lift_twice _ _ c.if-e-gt1.false c.if-m-shaft.false c.if-m-second.false c.if-e-eq1.false
