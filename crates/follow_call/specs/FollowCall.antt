-- What the C call that follows a log promises (document 02, 9/13: "Following a log gives the store after it, or the first entry that can't be true, counted from 0, with
-- the store before that entry").
use Rattle.std.specs.Prelude.{List, ℕ}
use Rattle.logs.specs.Following.{follow}
use Rattle.calls.specs.HandedBack.{HandsBack}
use Rattle.calls.specs.Shared.{store_in}

-- the store, the entry, and the number; "a wrong length .. gives entry 0 and the store as it came", which is handed back too
abbrev pub FollowCallIs : List ℕ → List ℕ → List ℕ → ℕ → List ℕ → Type 0
FollowCallIs a log came r out = let o = follow (store_in a) log in HandsBack a came o.reached o.entry o.number r out
