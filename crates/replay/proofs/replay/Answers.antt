-- `replay` meets its contract: the store's own fault, or the replay of the list.
use Rattle.std.proofs.Common.{◌≡◌, length, rules, sym}
use Rattle.marks.proofs.MarkLaws.{zeros}
use Rattle.lifts.specs.Lifting.{slot_count}
use Rattle.replay.proofs.Playing.{replay_played, replay_refused}
use Rattle.replay.proofs.replay.Goals as goal

pub returns-in-Err : goal.returns-in-Err
returns-in-Err c = replay_refused c.args.s _ _ _ (sym c.in-Err.ensures.has) (zeros 256)

pub play-played-requires-clause-none_counted : goal.play-played-requires-clause-none_counted
play-played-requires-clause-none_counted c = zeros 256

pub returns : goal.returns
returns c =
    let e : length c.play-played.new.carries ≡ slot_count = search rules in
    replay_played c.args.s _ c.args.list.now _ c.play-played.result c.in_default.ensures.0 e c.play-played.ensures
