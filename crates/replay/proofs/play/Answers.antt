-- `play` meets its contract: the next lift is made and counted, or stops the replay.
use Rattle.std.proofs.Common.{refl, ◌∙◌, arith}
use Rattle.replay.proofs.Playing.{count_length, goes_start, goes_through, goes_stopped, goes_lifted, can_count}
use Rattle.replay.proofs.play.Goals as goal

pub loop-count-init : goal.loop-count-init
loop-count-init c = let p = c.requires in (refl, goes_start _ _ _ p.accepted p.none_counted)

pub returns-in-Err : goal.returns-in-Err
returns-in-Err c =
    goes_stopped _ _ _ _ _ c.loop-count.invariant.1 c.loop-count-test.true c.left_of-from.ensures c.entered_of-to.ensures _ c.in-Err.ensures

pub count_carry-requires : goal.count_carry-requires
count_carry-requires c =
    can_count _ _ _ _ _ c.loop-count.invariant.1 c.loop-count-test.true c.left_of-from.ensures c.entered_of-to.ensures c.in-Ok.ensures (omega arith)

pub loop-count-preserved : goal.loop-count-preserved
loop-count-preserved c = (
  count_length c.count_carry.ensures ∙ c.loop-count.invariant.0,
  goes_lifted _ _ _ _ _ c.loop-count.invariant.1 c.loop-count-test.true c.left_of-from.ensures c.entered_of-to.ensures c.in-Ok.ensures c.count_carry.ensures,
)

pub returns : goal.returns
returns c = goes_through _ _ _ _ _ c.loop-count.invariant.1 (omega arith)
