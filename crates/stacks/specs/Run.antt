-- Stores as stacks, and lists of lifts played on them. The stack of a shaft has its top cassette first; shafts count from 0.
-- A step is one legal lift (document 01, "The store"; document 000, Definition 3.2) seen stack by stack. Each shaft has its own depth, and
-- numbers may repeat.
use Rattle.std.specs.Prelude.{◌≡◌, List, [], ◌∷◌, ℕ, ◌<◌, ◌≤◌, length}

-- what stands in each shaft, top first
abbrev pub Stacks : Type 0
Stacks = ℕ → List ℕ

-- the shaft left and the shaft entered
pub record Lift : Type 0 where
  pub left : ℕ
  pub entered : ℕ

-- the same lift turned about
abbrev pub turned : Lift → Lift
turned l = record { left = l.entered; entered = l.left }

-- The shafts that lifts may use, of m. (Sums over the shafts, and `Within`, run over all m.)
abbrev pub Usable : ℕ → ℕ → Type 0
Usable m x = x < m

-- One legal lift of m shafts with depths d leads from S to T: the top of the shaft left now stands on the shaft entered, which had room, and every
-- other shaft is as it was.
pub record Step (m : ℕ) (d : ℕ → ℕ) (l : Lift) (S T : Stacks) : Type 0 where
  pub differ : l.left ≡ l.entered → ⊥
  pub left_below : Usable m l.left
  pub entered_below : Usable m l.entered
  pub cassette : ℕ
  pub taken : S l.left ≡ cassette ∷ T l.left
  pub placed : T l.entered ≡ cassette ∷ S l.entered
  pub room : length (S l.entered) < d l.entered
  pub kept : (i : ℕ) → (i ≡ l.left → ⊥) → (i ≡ l.entered → ⊥) → T i ≡ S i

-- A list of lifts, legal from S, that ends at T.
pub data Run (m : ℕ) (d : ℕ → ℕ) : Stacks → List Lift → Stacks → Type 0 where
  done : {S : Stacks} → Run m d S [] S
  step : {S T U : Stacks} {l : Lift} {ls : List Lift} → Step m d l S T → Run m d T ls U → Run m d S (l ∷ ls) U

-- no shaft holds more than its depth
abbrev pub Within : ℕ → (ℕ → ℕ) → Stacks → Type 0
Within m d S = (i : ℕ) → i < m → length (S i) ≤ d i

-- Some list of at most `bound` lifts leads from S to T.
pub record Reached (m : ℕ) (d : ℕ → ℕ) (S T : Stacks) (bound : ℕ) : Type 0 where
  pub lifts : List Lift
  pub runs : Run m d S lifts T
  pub short : length lifts ≤ bound
