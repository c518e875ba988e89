-- Bottom parts of stacks that stay, and a cassette on its way onto one of them: what a round of direct placement keeps and brings about. Each shaft has its own depth,
-- and numbers may repeat.
use Rattle.std.specs.Prelude.{◌≡◌, List, ◌∷◌, ◌++◌, cond, ℕ, suc, ◌+◌, ◌*◌, ◌≤◌, ◌<◌, leb, length}
use Rattle.stacks.specs.Run.{Stacks, Usable, Within}
use Rattle.stacks.specs.Count.{sum, total, occurrences}

-- t stands on l: l is its bottom part
pub record Onto (l t : List ℕ) : Type 0 where
  pub above : List ℕ
  pub split : t ≡ above ++ l

-- Every stack of S stands on the part of it that is passed, P, which holds its floor, where e slots are empty.
pub record Passed (m : ℕ) (d : ℕ → ℕ) (e : ℕ) (P S : Stacks) : Type 0 where
  pub onto : (i : ℕ) → Onto (P i) (S i)
  pub floor : (i : ℕ) → Usable m i → d i ≤ e + length (P i)
  pub within : Within m d S
  pub all : total m S + e ≡ sum m d

-- The cassette v of shaft a stands on p, and is not passed.
pub record Over (P S : Stacks) (v a : ℕ) (p : List ℕ) : Type 0 where
  pub stands : Onto (v ∷ p) (S a)
  pub unpassed : length (P a) ≤ length p

-- v, which stands on p in shaft a with k above it, is on its way onto what is passed of another shaft b, where l stand above that; r slots are empty
-- outside the two, one at least if anything is in the way.
pub record Placing (m : ℕ) (d : ℕ → ℕ) (e : ℕ) (P : Stacks) (b v : ℕ) (S : Stacks) (a : ℕ) (p : List ℕ) (k l r : ℕ) : Type 0 where
  pub passed : Passed m d e P S
  pub over : Over P S v a p
  pub differ : a ≡ b → ⊥
  pub first : Usable m a
  pub second : Usable m b
  pub place : length (P b) < d b
  pub covered : k + suc (length p) ≡ length (S a)
  pub in_the_way : l + length (P b) ≡ length (S b)
  pub outside : r + (d a + d b) ≡ e + (length (S a) + length (S b))
  pub way : 0 < k + l → 0 < r

-- how high each stack is
abbrev pub heights_of : Stacks → ℕ → ℕ
heights_of S i = length (S i)

-- At most so many lifts are left: all that is in the way goes aside, or, where that has no room, what covers v goes by way of b.
unfoldable pub lifts_left : ℕ → ℕ → ℕ → ℕ
lifts_left k l r = cond (leb (k + l) r) (k + l + 1) (2 * k + l + 2)

-- one of k + l may be lifted aside: all have room, or one slot at least is left
pub data Spare (k l r : ℕ) : Type 0 where
  all : k + l ≤ r → Spare k l r
  some : 1 < r → Spare k l r

-- shaft c has room, by the heights, and is another than a and b
pub record Outside (m : ℕ) (d : ℕ → ℕ) (a b : ℕ) (heights : ℕ → ℕ) (c : ℕ) : Type 0 where
  pub usable : Usable m c
  pub not_first : c ≡ a → ⊥
  pub not_second : c ≡ b → ⊥
  pub room : heights c < d c

-- A lift from x to y that brings v nearer: what covers v aside, what is in the way aside, what covers v onto b, or v itself to the one slot left outside.
pub data Next (m : ℕ) (d : ℕ → ℕ) (a b k l r : ℕ) (heights : ℕ → ℕ) : ℕ → ℕ → Type 0 where
  uncover : {c : ℕ} → 0 < k → Spare k l r → Outside m d a b heights c → Next m d a b k l r heights a c
  clear : {c : ℕ} → k ≡ 0 → 0 < l → Spare k l r → Outside m d a b heights c → Next m d a b k l r heights b c
  across : 0 < k → r ≡ 1 → 1 < k + l → Next m d a b k l r heights a b
  away : {c : ℕ} → k ≡ 0 → r ≡ 1 → 1 < l → Outside m d a b heights c → Next m d a b k l r heights a c

-- Rounds under way from S to the goal G: what is passed stands at the bottom of both, each number stands equally often in both, and the shafts beyond m are the same.
pub record Halfway (m : ℕ) (d : ℕ → ℕ) (e : ℕ) (G S P : Stacks) : Type 0 where
  pub passed : Passed m d e P S
  pub goal : (i : ℕ) → Onto (P i) (G i)
  pub counts : (c : ℕ) → occurrences m c S ≡ occurrences m c G
  pub beyond : (i : ℕ) → m ≤ i → S i ≡ G i
