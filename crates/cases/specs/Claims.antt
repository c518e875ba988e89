-- What a row of the table can claim, and what each claim means by the definitions.
use Rattle.std.specs.Prelude.{List, [], ◌∷◌, ◌++◌, map, ◌≡◌, ℕ, ◌-◌, length, replicate}
use Rattle.store.specs.declared.Store.{Store}
use Rattle.store.specs.Slots.{list_space}
use Rattle.store.specs.Lifts.{lift_number}
use Rattle.store.specs.Lists.{Leads, Reachable}
use Rattle.reach.specs.Pairs.{pair_fault}
use Rattle.image.specs.Image.{length_in, image_in}
use Rattle.image.specs.Reading.{refused, read_image}
use Rattle.image.specs.Writing.{write_refusal}
use Rattle.logs.specs.Following.{follow}

-- a list with zeros after it, k numbers long
abbrev pub padded : ℕ → List ℕ → List ℕ
padded k l = l ++ replicate (k - length l) 0

abbrev pub joined : List (List ℕ) → List ℕ
joined [] = []
joined (l ∷ ls) = padded 16 l ++ joined ls

-- the store with these depths and these shafts, "bottom first"
abbrev pub uneven_of : List ℕ → List (List ℕ) → Store
uneven_of depths shafts = record {
  m = length shafts;
  depths = padded 16 depths;
  heights = padded 16 (map length shafts);
  slots = padded 256 (joined shafts);
}

-- the same with one depth h for all
abbrev pub store_of : ℕ → List (List ℕ) → Store
store_of h shafts = uneven_of (replicate (length shafts) h) shafts

pub data Claim : Type 0 where
  -- a lift between two shafts of a store gets a number
  lift_gets : Store → ℕ → ℕ → ℕ → Claim
  -- the goal can be reached, and these bytes do it
  yes_by : Store → List ℕ → Store → Claim
  -- the goal can't be reached: 15
  unreachable : Store → Store → Claim
  -- two stores get a number before any list is asked for
  pair_gets : Store → Store → ℕ → Claim
  -- so many bytes of list space suffice
  space_is : Store → ℕ → Claim
  -- an image is refused with a number
  reading_gets : List ℕ → ℕ → Claim
  -- an image is read as a store, which is written in a form as that image
  image_is : ℕ → List ℕ → Store → Claim
  -- a store written in a form, into so many bytes, gets a number, 0 where it is written
  writing_gets : ℕ → Store → ℕ → ℕ → Claim
  -- the image of a store in a form has so many bytes
  length_is : ℕ → Store → ℕ → Claim
  -- following a log on a store gives an entry, a number and a store
  log_gets : Store → List ℕ → ℕ → ℕ → Store → Claim

abbrev pub ClaimHolds : Claim → Type 0
ClaimHolds (lift_gets s a b k) = lift_number s a b ≡ k
ClaimHolds (yes_by s bs t) = (pair_fault s t ≡ 0) × Leads s bs t
ClaimHolds (unreachable s t) = (pair_fault s t ≡ 0) × (Reachable s t → ⊥)
ClaimHolds (pair_gets s t k) = pair_fault s t ≡ k
ClaimHolds (space_is s k) = list_space s ≡ k
ClaimHolds (reading_gets bytes k) = read_image bytes ≡ refused k
ClaimHolds (image_is f bytes s) = (read_image bytes ≡ record { store = s; number = 0 }) × (image_in f s ≡ bytes)
ClaimHolds (writing_gets f s room k) = write_refusal f s room ≡ k
ClaimHolds (length_is f s k) = length_in f s ≡ k
ClaimHolds (log_gets s log i k t) = follow s log ≡ record { reached = t; entry = i; number = k }

-- every claim of a list holds
abbrev pub AllHold : List Claim → Type 0
AllHold [] = Unit {0}
AllHold (c ∷ cs) = ClaimHolds c × AllHold cs
