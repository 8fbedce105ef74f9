-- What the answer of applying a delta means. Assumes nothing.
use Rattle.std.specs.Prelude.{ℕ}
use Rattle.definitions.specs.Outcome.{Outcome}
use Rattle.format.specs.Answers.{stored_with}
use Rattle.format.specs.Sources.{unknown_counts}
use Rattle.applying.specs.declared.checked.Applied.{Applied}

-- the refusal's number and the values of each case, together with the warning
abbrev pub applied_ints : Applied → Outcome ℕ
applied_ints r = stored_with r.answer (unknown_counts r.unknown_delete)
