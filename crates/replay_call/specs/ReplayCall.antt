-- What the C call that plays a list promises (document 01, "The image": "A replay called from C writes the store reached as an image").
use Rattle.std.specs.Prelude.{List, ℕ}
use Rattle.replay.specs.Replaying.{replay}
use Rattle.calls.specs.HandedBack.{HandsBack}
use Rattle.calls.specs.Shared.{store_in}

-- the store reached, the count of lifts done, and the number, of a stopped replay too
abbrev pub ReplayCallIs : List ℕ → List ℕ → List ℕ → ℕ → List ℕ → Type 0
ReplayCallIs a list came r out = let o = replay (store_in a) list in HandsBack a came o.reached o.count o.number r out
