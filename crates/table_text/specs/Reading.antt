-- Reading a packed table of limited length, as the programs that show one do. Assumes nothing.
use Rattle.std.specs.Prelude.{List, ℕ, leb, ℤ, length, Result, Ok, Err}
use Rattle.definitions.specs.Refusals.{input_too_long}
use Rattle.definitions.specs.Outcome.{Outcome, ok, err, return, refuse, require, ◌>>◌}
use Rattle.definitions.specs.Tables.{Table}
use Rattle.definitions.specs.TableReading.{read_packed}
use Rattle.definitions.specs.TableCalls.{held}
use Rattle.format.specs.Numbers.{number}
use Rattle.format.specs.declared.Error.{Error}

-- the table of at most 8,192 packed bytes; more are refused with 42
unfoldable pub tabled : List ℕ → Outcome Table
tabled bytes = do
  require (leb (length bytes) 8192) input_too_long
  read_packed bytes

-- an outcome without its warnings, since no text shows them
abbrev pub unwarned : {A : Type 0} → Outcome A → Outcome A
unwarned (ok a w) = return a
unwarned (err n w) = refuse n

-- the table that an area holds after it was stored there, or the refusal
abbrev pub read_into : Result ℕ Error → List ℤ → Outcome Table
read_into (Ok n) area = held area
read_into (Err e) area = refuse (number e)
