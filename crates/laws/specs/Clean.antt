-- What a session requires of a table: it is sound, has 32-bit ints, and its types are judged without a warning. Assumes nothing.
use Rattle.std.specs.Prelude.{◌≡◌, true, []}
use Rattle.definitions.specs.Outcome.{return}
use Rattle.definitions.specs.Tables.{Table, sound}
use Rattle.definitions.specs.Types.{typed}
use Rattle.laws.specs.TableEach.{WholeTable}
use Rattle.laws.specs.BuilderForm.{Built, nothing, built-sound, built-whole, built-typed}

pub record Clean (t : Table) : Type 0 where
  pub is-sound : sound t ≡ true
  pub whole : WholeTable t
  pub types : typed t ≡ return t

-- what a builder builds is clean
pub built-clean : {t : Table} → Built t → Clean t
built-clean h = record { is-sound = built-sound h; whole = built-whole h; types = built-typed h }

-- so is the empty table
pub empty-clean : Clean []
empty-clean = built-clean nothing
