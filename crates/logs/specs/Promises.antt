-- What following a log promises, by the definition.
use Rattle.std.specs.Prelude.{◌≡◌}
use Rattle.lifts.specs.Numbers.{Only}
use Rattle.store.specs.declared.Store.{Store}
use Rattle.replay.specs.declared.Played.{Played}
use Rattle.entries.specs.declared.Untrue.{Untrue}
use Rattle.logs.specs.declared.Followed.{Followed}
use Rattle.logs.specs.Following.{Following}
use Rattle.logs.specs.Numbers.{log_end_number}

-- A log that was followed came to an outcome.
pub record FollowedIs (o : Following) (r : Followed) : Type 0 where
  pub store : r.store ≡ o.reached
  pub entry : r.entry ≡ o.entry
  pub end : Only log_end_number o.number r.end

-- So it is with one followed in a lent store; t is what it left. The entries counted are those before the one it stopped at.
pub record TracedIs (o : Following) (t : Store) (r : Played Untrue) : Type 0 where
  pub store : t ≡ o.reached
  pub entry : r.count ≡ o.entry
  pub end : Only log_end_number o.number r.end
