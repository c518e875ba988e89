-- Bottom parts of stacks: a lift keeps them in every shaft but the one left, and there too where something stands on them.
use mathlib.Core.Path.{◌≡◌, refl, sym, ap, ◌∙◌}
use mathlib.Core.Logic.{◌≢◌}
use mathlib.Core.List.{List, [], ◌∷◌, ◌++◌, append_assoc}
use Prim.Native.Nat.{ℕ, ◌≤◌, ◌<◌}
use native.Mathlib.Omega.{arith}
use lib.ListN.{length, length-append}
use Rattle.stacks.specs.Run.{Stacks, Lift, Step}
use Rattle.stacks.specs.Placing.{Onto}
use Rattle.stacks.proofs.Sums.{everywhere}

pub onto_same : {l t : List ℕ} → t ≡ l → Onto l t
onto_same e = record { above = []; split = e }

pub onto_then : {k l t : List ℕ} → Onto k l → Onto l t → Onto k t
onto_then {k} o w = record { above = w.above ++ o.above; split = w.split ∙ rw o.split (sym (append_assoc w.above o.above k)) }

pub onto_length : {l t : List ℕ} → Onto l t → length l ≤ length t
onto_length o = omega (arith, simp length-append at (ap length o.split))

-- A bottom part as long as the stack is the stack.
pub onto_all : {l t : List ℕ} → Onto l t → length t ≤ length l → t ≡ l
onto_all {l} o h = o.split ∙ go o.above (omega (arith, simp length-append at (ap length o.split)))
  where
    go : (k : List ℕ) → length k ≡ 0 → k ++ l ≡ l
    go [] e = refl
    go (x ∷ k) e = absurd (omega arith)

-- A bottom part that the top is no part of.
pub onto_under : {x : ℕ} {l t : List ℕ} → Onto l (x ∷ t) → length l ≤ length t → Onto l t
onto_under {x} {l} {t} o h = go o.above o.split
  where
    go : (k : List ℕ) → x ∷ t ≡ k ++ l → Onto l t
    go [] e = absurd (omega (arith, ap length e))
    go (y ∷ k) e = record { above = k; split = cc (e) }

-- Of two bottom parts the longer stands on the shorter.
pub onto_both : {k l t : List ℕ} → Onto k t → Onto l t → length k ≤ length l → Onto k l
onto_both {k} {l} {t} o w h = go w.above t w.split o
  where
    go : (u t : List ℕ) → t ≡ u ++ l → Onto k t → Onto k l
    go [] t e o = rw e at o
    go (x ∷ u) t e o =
        go u (u ++ l) refl (onto_under (rw e at o) (omega (arith, length-append u l)))

-- A lift keeps a bottom part of any shaft, in the shaft left if something stands on it.
pub step_onto : {m : ℕ} {d : ℕ → ℕ} {k : Lift} {S T : Stacks} → Step m d k S T → (i : ℕ) {l : List ℕ} → (i ≡ k.left → length l < length (S i))
    → Onto l (S i) → Onto l (T i)
step_onto {k = k} {S} {T} s i {l} =
    everywhere (λ i. (i ≡ k.left → length l < length (S i)) → Onto l (S i) → Onto l (T i)) k.left
    (λ h o. onto_under (rw s.taken at o) (omega (arith, h refl, ap length s.taken)))
    (everywhere (λ i. i ≢ k.left → (i ≡ k.left → length l < length (S i)) → Onto l (S i) → Onto l (T i)) k.entered
    (λ n h o. onto_then o (record { above = s.cassette ∷ []; split = s.placed }))
    (λ j e n h o. rw (s.kept j n e) o))
    i
