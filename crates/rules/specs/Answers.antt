-- What the answers of `rules` mean: the refusal's number and the values of each case. Assumes nothing.
use Rattle.std.specs.Prelude.{Result, Ok, Err, Option, Some, None}
use Rattle.std.proofs.Math.Option as Maybe
use Rattle.definitions.specs.Outcome.{Outcome, return, refuse}
use Rattle.definitions.specs.Rules.{Winner}
use Rattle.format.specs.declared.Error.{Error}
use Rattle.format.specs.Numbers.{number}
use Rattle.rules.specs.declared.Won.{Won}

abbrev pub won : Result (Option Won) Error → Outcome (Maybe.Option Winner)
won (Ok (Some w)) = return (Maybe.some (record { key = w.key; action = w.action }))
won (Ok None) = return Maybe.none
won (Err e) = refuse (number e)
