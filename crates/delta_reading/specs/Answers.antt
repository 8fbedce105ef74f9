-- What the answers of `delta_reading` mean. Assumes nothing.
use Rattle.std.specs.Prelude.{◌≡◌, true, List, ℤ, Option, Some, None}
use Rattle.definitions.specs.Warnings.{plus}
use Rattle.definitions.specs.Stream.{Stream, ints, warnings}
use Rattle.definitions.specs.DeltaCalls.{stored_delta}
use Rattle.definitions.specs.DeltaReading.{read_delta}
use Rattle.laws.specs.StreamLaws.{is_whole}
use Rattle.format.specs.Answers.{stored_with}
use Rattle.format.specs.Sources.{deleted_counts}
use Rattle.delta_reading.specs.declared.checked.Ordered.{Ordered}

-- what an answer says of an area before and after: any whole stream of these ints reads to this delta, with its own warnings; or nothing changed
abbrev pub OrderedRead : List ℤ → List ℤ → List ℤ → List ℤ → Option Ordered → Type 0
OrderedRead sizes src before after (Some r) =
    (s : Stream) → ints s ≡ src → is_whole s ≡ true → stored_delta before (read_delta sizes s) ≡ record { answer = stored_with r.answer (plus (warnings s) (deleted_counts r.delete_updates)); out = after }
OrderedRead sizes src before after None = after ≡ before
