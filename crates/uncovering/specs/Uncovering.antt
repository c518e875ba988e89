-- What it is to uncover a cassette (document 02, 1/13: "the fewest lifts after which nothing stands on a named cassette, proved fewest over all legal
-- lists"). A cassette is named by its number, and what is said of it is said of the slots that show the number.
use Rattle.std.specs.Prelude.{List, ◌≡◌, ℕ, ◌≤◌, ◌<◌, length}
use Rattle.store.specs.declared.Store.{Store}
use Rattle.store.specs.Slots.{height, slot}
use Rattle.store.specs.Lists.{Leads}

-- The store shows the number c in a row of a shaft that holds a cassette.
pub record Stands (s : Store) (c : ℕ) : Type 0 where
  pub shaft : ℕ
  pub row : ℕ
  pub below : shaft < s.m
  pub from_one : 0 < row
  pub held : row ≤ height s shaft
  pub shows : slot s shaft row ≡ c

-- "nothing stands on" it: the store shows the number c on top of some shaft.
pub record Uncovered (s : Store) (c : ℕ) : Type 0 where
  pub shaft : ℕ
  pub below : shaft < s.m
  pub some : 0 < height s shaft
  pub top : slot s shaft (height s shaft) ≡ c

-- The list leads to a store where c is uncovered.
pub record Uncovers (s : Store) (c : ℕ) (list : List ℕ) : Type 0 where
  pub reached : Store
  pub leads : Leads s list reached
  pub uncovered : Uncovered reached c

-- "the fewest lifts .. over all legal lists": some list that uncovers c has so many, and none has fewer.
pub record Fewest (s : Store) (c k : ℕ) : Type 0 where
  pub list : List ℕ
  pub uncovers : Uncovers s c list
  pub count : length list ≡ k
  pub least : (other : List ℕ) → Uncovers s c other → k ≤ length other
