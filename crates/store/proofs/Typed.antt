-- What holds of every number of a list, past its end of 0, after one of them is set.
use mathlib.Core.List.{List, [], ◌∷◌}
use Prim.Native.Nat.{ℕ, zero, suc}
use lib.ListN.{get_or, set}

pub each_set : (P : ℕ → Type 0) (l : List ℕ) (k v : ℕ) → P v → ((i : ℕ) → P (get_or l i 0)) → (i : ℕ) → P (get_or (set l k v) i 0)
each_set P [] k v h b i = b i
each_set P (c ∷ l) zero v h b zero = h
each_set P (c ∷ l) zero v h b (suc i) = b (suc i)
each_set P (c ∷ l) (suc k) v h b zero = b 0
each_set P (c ∷ l) (suc k) v h b (suc i) = each_set P l k v h (λ j. b (suc j)) i
