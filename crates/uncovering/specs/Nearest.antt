-- The answer by the places that show a number, in some of the shafts (request 5/13: "the fewest lifts that uncover some blank"): a place is cleared by as many lifts as
-- cassettes stand on it, unless it lies too low, and the answer is the least over the places.
use Rattle.std.specs.Prelude.{◌≡◌, ℕ, ◌+◌, ◌≤◌, ◌<◌, min, Result, Ok, Err}
use Rattle.store.specs.declared.Store.{Store}
use Rattle.store.specs.Slots.{depth, height, empty_count}
use Rattle.uncovering.specs.declared.Hidden.{Hidden}
use Rattle.uncovering.specs.declared.Hidden.TheVariants.{Absent, Buried}
use Rattle.uncovering.specs.Uncovering.{Stands}

-- A place where c stands, in one of the shafts a to b − 1.
pub record Place (a b : ℕ) (s : Store) (c : ℕ) : Type 0 where
  pub stands : Stands s c
  pub from : a ≤ stands.shaft
  pub to : stands.shaft < b

-- it stands no lower than row d − e of its shaft of depth d
abbrev pub HighEnough : {s : Store} {c : ℕ} → Stands s c → Type 0
HighEnough {s} w = depth s w.shaft ≤ w.row + empty_count s

-- on every place that is high enough stand k cassettes at least
abbrev pub Under : ℕ → ℕ → Store → ℕ → ℕ → Type 0
Under a b s c k = (w : Place a b s c) → HighEnough w.stands → k + w.stands.row ≤ height s w.stands.shaft

-- k cassettes stand on one place that is high enough, and no fewer on any other.
pub record Nearest (a b : ℕ) (s : Store) (c k : ℕ) : Type 0 where
  pub place : Place a b s c
  pub high : HighEnough place.stands
  pub above : k + place.stands.row ≡ height s place.stands.shaft
  pub least : Under a b s c k

-- what an answer says of the places
abbrev pub NearestIs : ℕ → ℕ → Store → ℕ → Result ℕ Hidden → Type 0
NearestIs a b s c (Ok k) = Nearest a b s c k
NearestIs a b s c (Err Absent) = Place a b s c → ⊥
NearestIs a b s c (Err Buried) = Place a b s c × ((w : Place a b s c) → HighEnough w.stands → ⊥)

-- the nearer of two answers: fewer lifts before more, some before none, and a number that stands too low before one that stands nowhere
abbrev pub nearer_of : Result ℕ Hidden → Result ℕ Hidden → Result ℕ Hidden
nearer_of (Err Absent) q = q
nearer_of (Err Buried) (Err h) = Err Buried
nearer_of (Err Buried) (Ok k) = Ok k
nearer_of (Ok j) (Err h) = Ok j
nearer_of (Ok j) (Ok k) = Ok (min j k)
