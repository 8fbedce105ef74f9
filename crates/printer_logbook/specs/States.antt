-- What a logbook and its two areas hold, and what its answers mean. Assumes nothing.
use Rattle.std.specs.Prelude.{List, [], ◌∷◌, ℕ, zero, suc, ◌<◌, ℤ, pos, length, get_or, Result, Ok, Err, Some, None}
use Rattle.std.proofs.Math.Option.{Option}
use Rattle.definitions.specs.Logbook as Book
use Rattle.format.specs.Numbers.{number}
use Rattle.ticks.specs.Ticks.{tick_of}
use Rattle.printer_logbook.specs.declared.Logbook.{Logbook}
use Rattle.format.specs.declared.Error.{Error}
use Rattle.ticks.specs.declared.Tick.{Tick}
use Rattle.std.specs.Prelude as Prelude
use Rattle.printer_logbook.specs.declared.Note.{Note}

-- the first n parts of an area, the latest first
abbrev pub parts_in : ℕ → List ℕ → List ℕ
parts_in zero a = []
parts_in (suc n) a = get_or a n 0 ∷ parts_in n a

-- the first n ticks of an area, the latest first
abbrev pub ticks_in : ℕ → List ℤ → List ℤ
ticks_in zero a = []
ticks_in (suc n) a = get_or a n (pos 0) ∷ ticks_in n a

-- the newest tick, if any
abbrev pub newest_of : Logbook → Option ℤ
newest_of g = tick_of g.newest

-- the acknowledgement, if any
abbrev pub ack_of : Logbook → Option ℤ
ack_of g = tick_of g.ack_tick

-- what is noted
abbrev pub logbook_of : Logbook → List ℕ → List ℤ → Book.Logbook
logbook_of g came held =
    record {
      newest = newest_of g;
      came = parts_in g.parts came;
      held = ticks_in g.ticks held;
      acknowledged = ack_of g;
    }

-- the answer for a message
abbrev pub answer_of : Result (Prelude.Option Tick) Error → Book.Answer
answer_of (Err e) = Book.refused (number e)
answer_of (Ok None) = Book.not_yet
answer_of (Ok (Some t)) = Book.acknowledges t.0

-- an answer, and what is noted afterwards
abbrev pub note_of : Note → List ℕ → List ℤ → Book.Note
note_of r came held = record { answer = answer_of r.answer; logbook = logbook_of r.logbook came held }

-- there is room for one more part and one more tick
pub record Room (g : Logbook) (came : List ℕ) (held : List ℤ) : Type 0 where
  pub parts : g.parts < length came
  pub ticks : g.ticks < length held
