-- `carries_of` meets its contract: the count beside a slot that shows the cassette is added, and no other.
use Rattle.std.proofs.Common.{◌≡◌, ℕ, eqb, get_or, refl, ap, add-one, arith, eq-eqb, ne_eqb, sym}
use Rattle.stacks.specs.Count.{sum}
use Rattle.marks.specs.Cassettes.{given}
use Rattle.replay.specs.Promises.{carries_of}
use Rattle.replay.proofs.Replayed.carries_of.Goals as goal
use Rattle.replay.proofs.Replayed.carries_of.Goals.{then-self-i, else-self-i}

shown_counts : {v c : ℕ} (k : ℕ) → v ≡ c → given (eqb c v) k ≡ k
shown_counts {v} {c} k e = ap (λ b. given b k) (eq-eqb c v (sym e))

other_counts : {v c : ℕ} (k : ℕ) → (v ≡ c → ⊥) → given (eqb c v) k ≡ 0
other_counts {v} {c} k n = ap (λ b. given b k) (ne_eqb c v (λ e. n (sym e)))

pub loop-i-init : goal.loop-i-init
unfolding sum
loop-i-init c = refl

pub loop-i-preserved : goal.loop-i-preserved
unfolding sum
loop-i-preserved c =
    let k = get_or c.args.self.carries c.loop-i.i 0 in
    elim c.if-self-i.branch [
      | then-self-i w ↦ rw (w.times-is, add-one) (omega (arith, c.loop-i.invariant, shown_counts k w.if-self-i.true))
      | else-self-i w ↦ rw (w.times-is, add-one) (omega (arith, c.loop-i.invariant, other_counts k w.if-self-i.false))
    ]

pub returns : goal.returns
unfolding carries_of
returns c =
    let e : c.loop-i.i ≡ 256 = omega arith in
    rw e at c.loop-i.invariant
