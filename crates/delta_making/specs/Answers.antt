-- What the answers of making a delta mean. Assumes nothing.
use Rattle.std.specs.Prelude.{ℕ, ℤ, Result, Ok, Err}
use Rattle.std.proofs.Math.Option.{Option, some, none}
use Rattle.definitions.specs.Refusals.{delta_differing_sizes}
use Rattle.definitions.specs.Outcome.{Outcome, return, refuse}
use Rattle.format.specs.Numbers.{number}
use Rattle.delta_making.specs.declared.MakeError.{MakeError}
use Rattle.delta_making.specs.declared.MakeError.TheVariants.{DifferingSizes, Refused}

-- the refusal's number or the value of each case
abbrev pub made_ints : Result ℕ MakeError → Outcome ℕ
made_ints (Ok n) = return n
made_ints (Err (DifferingSizes k)) = refuse delta_differing_sizes
made_ints (Err (Refused e)) = refuse (number e)

-- the key that clashes, if it is that
abbrev pub made_clash : Result ℕ MakeError → Option ℤ
made_clash (Ok n) = none
made_clash (Err (DifferingSizes k)) = some k
made_clash (Err (Refused e)) = none
