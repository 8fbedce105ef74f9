-- What the answers of `typed_applying` mean: the refusal's number and the values of each case. Assumes nothing.
use Rattle.std.specs.Prelude.{◌≡◌, List, ℤ, Result, Ok, Err, Some}
use Rattle.definitions.specs.Warnings.{Counts}
use Rattle.definitions.specs.Outcome.{Outcome, ok, err, ◌>>=◌}
use Rattle.definitions.specs.Tables.{Table, table_of}
use Rattle.definitions.specs.Deltas.{Delta}
use Rattle.definitions.specs.Applying.{apply_delta}
use Rattle.definitions.specs.Types.{typed}
use Rattle.format.specs.declared.Error.{Error}
use Rattle.format.specs.Numbers.{number}
use Rattle.format.specs.Sources.{typed_counts}
use Rattle.table.specs.Held.{form_of}
use Rattle.table.specs.declared.checked.TableForm.{TableForm}
use Rattle.typed_applying.specs.declared.checked.Typed.{Typed}

-- a delta applied to a base, with the types of the table judged
abbrev pub applied_typed : Table → Delta → Outcome Table
applied_typed b d = apply_delta b d >>= typed

-- an answer on a table, together with its warning counts
abbrev pub table_with : Table → Result TableForm Error → Counts → Outcome Table
table_with t (Ok f) w = ok t w
table_with t (Err e) w = err (number e) w

-- the same with what was counted
abbrev pub typed_table : Table → Typed → Outcome Table
typed_table t r = table_with t r.table (typed_counts r.unknown_delete r.excess)

-- if a table was made, the area begins with it
abbrev pub Stands : List ℤ → Result TableForm Error → Type 0
Stands a (Ok f) = Some f ≡ form_of (table_of a)
Stands a (Err e) = Unit {0}
