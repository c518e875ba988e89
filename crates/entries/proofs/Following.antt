-- How an entry followed in place is answered: nothing is changed by one that can't be true, and the other leaves the store after it.
use mathlib.Core.Path.{◌≡◌, sym, ap, ◌∙◌}
use Prim.Native.Nat.{ℕ}
use Rattle.std.specs.Prelude.{Result}
use Rattle.lifts.specs.Numbers.{Only}
use Rattle.store.specs.declared.Store.{Store}
use Rattle.store.specs.Lifts.{when_none}
use Rattle.store.proofs.Lifting.{when_some}
use Rattle.entries.specs.declared.Untrue.{Untrue}
use Rattle.entries.specs.declared.Entry.{Entry}
use Rattle.entries.specs.Entries.{entry_fault, after_entry}
use Rattle.entries.specs.Numbers.{truth_number}
use Rattle.entries.specs.Promises.{EntryIs}

module _ (s : Store) (e : Entry) where
  module _ {r : Result Unit Untrue} (c : Only truth_number (entry_fault s e) r) where
    pub entry_stays : (entry_fault s e ≡ 0 → ⊥) → EntryIs s e s r
    entry_stays n = record { truth = c; store = when_some (entry_fault s e) (after_entry s e) s n }

    pub entry_goes : {t : Store} → entry_fault s e ≡ 0 → t ≡ after_entry s e → EntryIs s e t r
    entry_goes z f = record { truth = c; store = f ∙ ap (λ (k : ℕ). when_none k (after_entry s e) s) (sym z) }

  module _ {t : Store} {r : Result Unit Untrue} (q : EntryIs s e t r) where
    pub entry_left : (entry_fault s e ≡ 0 → ⊥) → t ≡ s
    entry_left n = q.store ∙ sym (when_some (entry_fault s e) (after_entry s e) s n)

    pub entry_done : entry_fault s e ≡ 0 → t ≡ after_entry s e
    entry_done z = q.store ∙ ap (λ (k : ℕ). when_none k (after_entry s e) s) z

  -- one answer alone keeps the promise
  pub entry_exact : {t u : Store} {x y : Result Unit Untrue} → EntryIs s e t x → EntryIs s e u y → (t ≡ u) × (x ≡ y)
  entry_exact {t} {u} {x} p q = (p.store ∙ sym q.store, q.truth.alone x p.truth.has)
