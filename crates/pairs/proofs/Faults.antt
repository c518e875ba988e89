-- The faults of two stores by what the code tests: 8 by their frames, 9 or none by the marks and the count of blanks.
use mathlib.Core.Bool.{Bool, true, false, not}
use mathlib.Core.List.{List}
use mathlib.Core.Path.{◌≡◌, refl, sym, subst, ◌∙◌}
use Prim.Native.Nat.{ℕ, ◌^◌, ◌<◌}
use lib.ListN.{get_or}
use Rattle.stacks.specs.Count.{count}
use Rattle.marks.specs.Cassettes.{blank, given}
use Rattle.marks.specs.Marking.{marks_of, Marked}
use Rattle.marks.proofs.MarkSets.{counts_words, words_counts}
use Rattle.store.specs.declared.Store.{Store}
use Rattle.store.specs.Slots.{SameFrame, cassettes}
use Rattle.store.specs.declared.Fault.{Fault}
use Rattle.store.specs.Accept.{store_fault, Accepted}
use Rattle.store.specs.Promises.{CheckIs}
use Rattle.pairs.specs.declared.PairFault.{PairFault}
use Rattle.std.specs.Prelude.{Result, Ok, Err, MatchResult}
use Rattle.store.proofs.Acceptance.{accepted_marked}
use Rattle.reach.specs.Pairs.{same_frame, frame_fault, cassettes_fault, Comparable}
use Rattle.reach.proofs.Sets.{agreed_frames, other_cassettes}

pub frames_differ : (s t : Store) → (SameFrame s t → ⊥) → frame_fault s t ≡ 8
frames_differ s t n = go (same_frame s t) (λ e. n (agreed_frames s t e))
  where
    go : (b : Bool) → (given (not b) 8 ≡ 0 → ⊥) → given (not b) 8 ≡ 8
    go true n = absurd (n refl)
    go false n = refl

-- an accepted store, with the words of the marks of its cassettes
abbrev pub AcceptedMarks : Store → List ℕ → Type 0
AcceptedMarks s w = Accepted s × (w ≡ marks_of (cassettes s))

-- what a check that refuses nothing found, its fault named by another
pub accepted_marks : (s : Store) (w : List ℕ) (r : Result (List ℕ) Fault) → CheckIs (store_fault s) (cassettes s) r
    → MatchResult r (λ v. ◌≡◌ {A = Result (List ℕ) PairFault} (Ok w) (Ok v)) (λ f. ⊥) → AcceptedMarks s w
accepted_marks s w (Ok v) p e = (p.0, cc (p.1.0, e))
accepted_marks s w (Err f) p e = absurd e

marked : (s : Store) (w : List ℕ) → AcceptedMarks s w → Marked w (cassettes s)
marked s w p = subst (λ (u : List ℕ). Marked u (cassettes s)) (sym p.1) (accepted_marked s p.0)

-- 9, or none, by the marks and the blanks
module _ (s t : Store) (v w : List ℕ) (p : AcceptedMarks s v) (q : AcceptedMarks t w) {j k : ℕ} (b : j ≡ count blank (cassettes s)) (d : k ≡ count blank (cassettes t)) where
  pub cassettes_differ : ((i : ℕ) → get_or v i 0 < 2 ^ 64) → ((i : ℕ) → get_or w i 0 < 2 ^ 64) → ((v ≡ w) × (j ≡ k) → ⊥) → cassettes_fault s t ≡ 9
  cassettes_differ g h n = other_cassettes s t λ c. n (counts_words v w _ _ (marked s v p) (marked t w q) g h c, b ∙ c blank ∙ sym d)

  pub cassettes_agree : SameFrame s t → (v ≡ w) × (j ≡ k) → Comparable s t
  cassettes_agree f e = record { start = p.0; goal = q.0; frame = f; cassettes = words_counts v w _ _ (marked s v p) (marked t w q) e.0 (sym b ∙ e.1 ∙ d) }
