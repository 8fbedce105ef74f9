-- The line that `ruleprint` writes, as docs/FORMAT.md describes it. Assumes nothing.
use Rattle.std.specs.Prelude.{List, [], ◌∷◌, ◌++◌, ℕ, ℤ}
use Rattle.std.proofs.Math.Option.{Option, some, none}
use Rattle.definitions.specs.Outcome.{Outcome, ok, err, ◌>>=◌}
use Rattle.definitions.specs.Rules.{Winner, winner_for}
use Rattle.replay_text.specs.Numbers.{signed}
use Rattle.replay_text.specs.Answers.{refused}
use Rattle.table_text.specs.Reading.{tabled}
use Rattle.table_text.specs.Listing.{ended}

-- a winner's key and action, separated by a space
unfoldable pub winner_text : ℤ → ℤ → List ℕ
winner_text key action = ended (signed key ++ 32 ∷ signed action)

-- the words "no rule"
abbrev pub no_rule : List ℕ
no_rule = ended (110 ∷ 111 ∷ 32 ∷ 114 ∷ 117 ∷ 108 ∷ 101 ∷ [])

-- the text of an answer: the winner's, that there is none, or the refusal and its number
abbrev pub won_text : Outcome (Option Winner) → List ℕ
won_text (ok (some r) w) = winner_text r.key r.action
won_text (ok none w) = no_rule
won_text (err n w) = ended (refused n)

-- the line for at most 8,192 packed bytes; more are refused with 42
unfoldable pub rule_line : List ℕ → List ℕ → ℤ → List ℕ
rule_line bytes types ingredient = won_text (tabled bytes >>= winner_for types ingredient)
