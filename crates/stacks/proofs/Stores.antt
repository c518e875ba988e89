-- Changing one shaft of a store or two, one lift made on a store, and legal lists of bounded length put one after the other.
use mathlib.Core.Path.{◌≡◌, refl, sym, ◌∙◌, fun_ext}
use mathlib.Core.Logic.{◌≢◌}
use mathlib.Core.List.{List, [], ◌∷◌, ◌++◌}
use mathlib.Core.Bool.{cond}
use Prim.Native.Nat.{ℕ, suc, ◌+◌, ◌≤◌, ◌<◌}
use native.Mathlib.Omega.{arith}
use borrow.Author.Tests.{eq-eqb, ne_eqb}
use lib.Dec.{eqb}
use lib.ListN.{length, length-append}
use Rattle.stacks.specs.Run.{Stacks, Lift, Step, done, step, Reached}
use Rattle.stacks.specs.Moves.{lift}
use Rattle.stacks.proofs.Runs.{run_append}
use Rattle.stacks.proofs.Sums.{everywhere}

-- The store with the stack v in shaft a.
pub put : Stacks → ℕ → List ℕ → Stacks
put S a v i = cond (eqb i a) v (S i)

-- Shaft a holds what was put there.
pub put_same : (S : Stacks) (a : ℕ) (v : List ℕ) → put S a v a ≡ v
unfolding put
put_same S a v = rw (eq-eqb a a refl)

-- Every other shaft is as it was.
pub put_other : (S : Stacks) (a : ℕ) (v : List ℕ) (i : ℕ) → i ≢ a → put S a v i ≡ S i
unfolding put
put_other S a v i h = rw (ne_eqb i a h)

-- The store with u in shaft a and v in shaft b.
pub put_two : Stacks → ℕ → List ℕ → ℕ → List ℕ → Stacks
put_two S a u b v = put (put S a u) b v

module _ (S : Stacks) (a : ℕ) (u : List ℕ) (b : ℕ) (v : List ℕ) where
  -- The first shaft, unless it is the second too, holds what was put there.
  pub put_two_first : a ≢ b → put_two S a u b v a ≡ u
  unfolding put_two
  put_two_first h = put_other (put S a u) b v a h ∙ put_same S a u

  -- The second shaft holds what was put there.
  pub put_two_second : put_two S a u b v b ≡ v
  unfolding put_two
  put_two_second = put_same (put S a u) b v

  -- Every other shaft is as it was.
  pub put_two_other : (i : ℕ) → i ≢ a → i ≢ b → put_two S a u b v i ≡ S i
  unfolding put_two
  put_two_other i h k = put_other (put S a u) b v i k ∙ put_other S a u i h

-- The top of shaft a lifted to shaft b.
pub record Lifted (m : ℕ) (d : ℕ → ℕ) (S : Stacks) (a b : ℕ) : Type 0 where
  pub store : Stacks
  pub legal : Step m d (lift a b) S store

-- The top of a shaft may be lifted to any other shaft that has room.
pub one_lift : (m : ℕ) (d : ℕ → ℕ) (S : Stacks) (a b : ℕ) → a ≢ b → a < m → b < m → 0 < length (S a) → length (S b) < d b → Lifted m d S a b
one_lift m d S a b ne p q some r = go (S a) refl some
  where
    go : (l : List ℕ) → S a ≡ l → 0 < length l → Lifted m d S a b
    go [] e n = absurd (omega arith)
    go (c ∷ l) e n = record {
      store = put_two S a l b (c ∷ S b);
      legal = record {
        differ = ne;
        left_below = p;
        entered_below = q;
        cassette = c;
        taken = rw (put_two_first S a l b (c ∷ S b) ne) e;
        placed = put_two_second S a l b (c ∷ S b);
        room = r;
        kept = put_two_other S a l b (c ∷ S b);
      };
    }

-- Every store is reached from itself.
pub reached_here : (m : ℕ) (d : ℕ → ℕ) (S : Stacks) (k : ℕ) → Reached m d S S k
reached_here m d S k = record { lifts = []; runs = done; short = omega arith }

-- One lift, and then a list.
pub lift_then : {m : ℕ} {d : ℕ → ℕ} {l : Lift} {S T U : Stacks} {k : ℕ} → Step m d l S T → Reached m d T U k → Reached m d S U (suc k)
lift_then {l = l} s p = record { lifts = l ∷ p.lifts; runs = step s p.runs; short = omega arith }

-- One list after another.
pub reached_after : {m : ℕ} {d : ℕ → ℕ} {S T U : Stacks} {k l n : ℕ} → k + l ≤ n → Reached m d S T k → Reached m d T U l → Reached m d S U n
reached_after h p q = record { lifts = p.lifts ++ q.lifts; runs = run_append p.runs q.runs; short = simp length-append (omega arith) }

-- Some list of at most `bound` lifts leads from S to a store with Q.
pub record Leading (m : ℕ) (d : ℕ → ℕ) (S : Stacks) (Q : Stacks → Type 0) (bound : ℕ) : Type 0 where
  pub store : Stacks
  pub reached : Reached m d S store bound
  pub so : Q store

-- A list, and then another to such a store.
pub leading_after : {m : ℕ} {d : ℕ → ℕ} {S T : Stacks} {Q : Stacks → Type 0} {k l n : ℕ} → k + l ≤ n → Reached m d S T k → Leading m d T Q l → Leading m d S Q n
leading_after h r w = record { store = w.store; reached = reached_after h r w.reached; so = w.so }

-- One lift, and then such a list.
pub leading_lift : {m : ℕ} {d : ℕ → ℕ} {l : Lift} {S T : Stacks} {Q : Stacks → Type 0} {k : ℕ} → Step m d l S T → Leading m d T Q k → Leading m d S Q (suc k)
leading_lift s w = record { store = w.store; reached = lift_then s w.reached; so = w.so }

-- A shaft c lowered to q while b got x, and paid back.
pub put_back : (P : Stacks) (b c z : ℕ) (x q : List ℕ) → c ≢ b → P c ≡ z ∷ q → put (put (put P c q) b x) c (z ∷ put (put P c q) b x c) ≡ put P b x
unfolding put
put_back P b c z x q cb pc = fun_ext (everywhere _ c (rw (eq-eqb c c refl, ne_eqb c b cb) (sym pc)) (λ i n. rw (ne_eqb i c n)))

-- A bound may be raised.
pub reached_within : {m : ℕ} {d : ℕ → ℕ} {S T : Stacks} {k l : ℕ} → k ≤ l → Reached m d S T k → Reached m d S T l
reached_within h p = record { lifts = p.lifts; runs = p.runs; short = omega arith }
