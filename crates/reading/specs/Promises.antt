-- What the reading of a store promises, by the definitions.
use Rattle.std.specs.Prelude.{◌≡◌, Result}
use Rattle.store.specs.declared.Store.{Store}
use Rattle.image.specs.declared.ReadFault.{ReadFault}
use Rattle.image.specs.Reading.{Reading}
use Rattle.fields.specs.Steps.{after}

-- A reading of bytes gave its store, or the fault with its number.
abbrev pub StoreIs : Reading → Result Store ReadFault → Type 0
StoreIs o r = o ≡ after r (λ s. record { store = s; number = 0 })
