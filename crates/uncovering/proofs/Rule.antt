-- The rule by which an order is answered (request 5/13): where a place that shows the number is no lower than row d − e of its shaft of depth d, the fewest lifts
-- that uncover it are as many as stand on the nearest such place; where none is, no list does.
use mathlib.Core.List.{List}
use Prim.Native.Nat.{ℕ, suc}
use native.Mathlib.Omega.{arith}
use lib.ListN.{length}
use Rattle.store.specs.declared.Store.{Store}
use Rattle.store.specs.Sound.{Shaped}
use Rattle.std.specs.Prelude.{Result, Ok, Err}
use Rattle.uncovering.specs.declared.Hidden.{Hidden}
use Rattle.uncovering.specs.declared.Hidden.TheVariants.{Absent, Buried}
use Rattle.uncovering.specs.Nearest.{Place, HighEnough, Nearest, NearestIs}
use Rattle.uncovering.specs.Promises.{UncoveringIs}
use Rattle.uncovering.specs.Uncovering.{Uncovers, Fewest}
use Rattle.uncovering.proofs.Cleared.{cleared}
use Rattle.uncovering.proofs.Covered.{none_sooner}

module _ (s : Store) (p : Shaped s) (c : ℕ) where
  pub fewest : {k : ℕ} → Nearest 0 s.m s c k → Fewest s c k
  fewest {k} n =
      let w = n.place.stands in
      let l = cleared k s c w.shaft w.row p w.below w.from_one n.above w.shows n.high in
      record { list = l.list; uncovers = l.uncovers; count = l.count; least = λ other u. none_sooner p u.leads u.uncovered k n.least }

  pub never_uncovered : ((w : Place 0 s.m s c) → HighEnough w.stands → ⊥) → (list : List ℕ) → Uncovers s c list → ⊥
  never_uncovered n list u = omega (arith, none_sooner p u.leads u.uncovered (suc (length list)) (λ w i. absurd (n w i)))

  -- what an answer says of the places of the store, it says of the lists
  pub by_places : (a : Result ℕ Hidden) → NearestIs 0 s.m s c a → UncoveringIs s c a
  by_places (Ok k) n = fewest n
  by_places (Err Absent) n = λ w. n (record { stands = w; from = omega arith; to = w.below })
  by_places (Err Buried) n = (n.0.stands, never_uncovered n.1)
