-- What the answers of `raw_snap` mean: the refusal's number and the values of each case. Assumes nothing.
use Rattle.std.specs.Prelude.{Bool, ℕ, ℤ, Result, Ok, Err, Option, Some, None}
use Rattle.std.proofs.Math.Option as Maybe
use Rattle.definitions.specs.Outcome.{Outcome, return, refuse}
use Rattle.format.specs.declared.Error.{Error}
use Rattle.format.specs.Numbers.{number}

abbrev pub has_item : Result Bool Error → Outcome Bool
has_item (Ok b) = return b
has_item (Err e) = refuse (number e)

abbrev pub item_count : Result ℕ Error → Outcome ℕ
item_count (Ok n) = return n
item_count (Err e) = refuse (number e)

abbrev pub checksum : Result ℤ Error → Outcome ℤ
checksum (Ok s) = return s
checksum (Err e) = refuse (number e)

abbrev pub walked : Result (Option ℤ) Error → Outcome (Maybe.Option ℤ)
walked (Ok (Some k)) = return (Maybe.some k)
walked (Ok None) = return Maybe.none
walked (Err e) = refuse (number e)
