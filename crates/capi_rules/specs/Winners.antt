-- What C is told of a winner. Assumes nothing.
use Rattle.std.proofs.Math.Option.{Option, some, none}
use Rattle.std.specs.Prelude.{ℕ, ℤ}
use Rattle.definitions.specs.Outcome.{Outcome}
use Rattle.definitions.specs.Rules.{Winner}
use Rattle.boundary.specs.Boundary.{output}

-- 1 if a rule matches, else 0
abbrev pub found : Option Winner → ℕ
found (some w) = 1
found none = 0

-- the winner's key, or the previous content if no rule matches
abbrev pub key_or : ℤ → Option Winner → ℤ
key_or before (some w) = w.key
key_or before none = before

-- the winner's action, or the previous content if no rule matches
abbrev pub action_or : ℤ → Option Winner → ℤ
action_or before (some w) = w.action
action_or before none = before

-- the three outputs after the call; a refused call leaves them
abbrev pub found_after : ℕ → Outcome (Option Winner) → ℕ
found_after before o = output found before o

abbrev pub key_after : ℤ → Outcome (Option Winner) → ℤ
key_after before o = output (key_or before) before o

abbrev pub action_after : ℤ → Outcome (Option Winner) → ℤ
action_after before o = output (action_or before) before o
