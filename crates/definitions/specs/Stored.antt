-- A result laid into an area. Assumes nothing.
use Rattle.std.specs.Prelude.{cond, List, ℕ, leb, length}
use Rattle.definitions.specs.Areas.{lay}
use Rattle.definitions.specs.Refusals.{capacity_error}
use Rattle.definitions.specs.Outcome.{Outcome, ok, err, Wrote}

-- entries laid over the front of an area, and how many there are; 40 if they do not fit
unfoldable pub stored : {E : Type 0} → List E → Outcome (List E) → Wrote ℕ E
stored out (ok xs w) =
    cond (leb (length xs) (length out))
    (record { answer = ok (length xs) w; out = lay xs out })
    (record { answer = err capacity_error w; out = out })
stored out (err n w) = record { answer = err n w; out = out }
