-- What the steps of the search promise. Assumes nothing.
use Rattle.std.specs.Prelude.{cond, Option, Some, None}
use Rattle.std.proofs.Math.Option as Maybe
use Rattle.definitions.specs.Ints.{from_bits, signed_less}
use Rattle.definitions.specs.Outcome.{Outcome, return}
use Rattle.definitions.specs.Rules.{Rule, Winner}
use Rattle.rules.specs.declared.checked.Best.{Best}

-- what the search keeps of the rule that it found
abbrev pub best_in : Maybe.Option Rule → Option Best
best_in (Maybe.some r) = Some (record { key = from_bits r.key; priority = r.priority; action = r.action })
best_in Maybe.none = None

-- the first of a rule and one with a greater key
abbrev pub first_best : Best → Option Best → Best
first_best rule None = rule
first_best rule (Some b) = cond (signed_less b.priority rule.priority) rule b

-- what is answered of the best rule
abbrev pub told : Option Best → Outcome (Maybe.Option Winner)
told (Some b) = return (Maybe.some (record { key = b.key; action = b.action }))
told None = return Maybe.none
