-- What the answers of `types` mean. Assumes nothing.
use Rattle.std.specs.Prelude.{Result, Ok, Err}
use Rattle.definitions.specs.Warnings.{Counts}
use Rattle.definitions.specs.Outcome.{Outcome, ok, err}
use Rattle.definitions.specs.Tables.{Table}
use Rattle.format.specs.declared.Error.{Error}
use Rattle.format.specs.Numbers.{number}
use Rattle.format.specs.Sources.{uuid_excess}
use Rattle.types.specs.declared.checked.Judged.{Judged}

-- an answer on types, with its warning counts
abbrev pub types_with : {A : Type 0} → A → Result (Unit {0}) Error → Counts → Outcome A
types_with a (Ok u) w = ok a w
types_with a (Err e) w = err (number e) w

-- the outcome of judging
abbrev pub judged : Judged → Outcome (Unit {0})
judged r = types_with tt r.types (uuid_excess r.excess)

-- the same, for a table
abbrev pub judged_table : Table → Judged → Outcome Table
judged_table t r = types_with t r.types (uuid_excess r.excess)
