-- What the answers of calls that store ints mean: the refusal's number or the value of each case. Assumes nothing.
use Rattle.std.specs.Prelude.{◌≡◌, ℕ, Result, Ok, Err}
use Rattle.std.proofs.Common.{ap}
use Rattle.definitions.specs.Warnings.{Counts}
use Rattle.definitions.specs.Outcome.{Outcome, ok, err, return, refuse, after}
use Rattle.laws.specs.WarningLaws.{plus_none}
use Rattle.format.specs.Numbers.{number}
use Rattle.format.specs.declared.Error.{Error}

abbrev pub stored_ints : Result ℕ Error → Outcome ℕ
stored_ints (Ok n) = return n
stored_ints (Err e) = refuse (number e)

-- an answer with its warning counts
abbrev pub stored_with : Result ℕ Error → Counts → Outcome ℕ
stored_with (Ok n) w = ok n w
stored_with (Err e) w = err (number e) w

-- an answer after earlier warnings
pub with-counts : (a : Result ℕ Error) (w : Counts) → after w (stored_ints a) ≡ stored_with a w
with-counts (Ok n) w = ap (ok n) (plus_none w)
with-counts (Err e) w = ap (err (number e)) (plus_none w)
