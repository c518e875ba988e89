-- What reading promises, by the definitions.
use Rattle.std.specs.Prelude.{◌≡◌}
use Rattle.lifts.specs.Numbers.{Only}
use Rattle.image.specs.declared.Read.{Read}
use Rattle.image.specs.Numbers.{read_number}
use Rattle.image.specs.Reading.{Reading}

-- A reading of bytes gave its store, and the answer with its number.
pub record ReadIs (o : Reading) (r : Read) : Type 0 where
  pub store : r.store ≡ o.store
  pub answer : Only read_number o.number r.answer
