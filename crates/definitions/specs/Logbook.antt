-- The logbook: what follows from a printer's messages alone, without their bytes. Assumes nothing.
use Rattle.std.specs.Prelude.{Bool, true, false, cond, ◌&&◌, ◌||◌, List, [], ◌∷◌, ℕ, zero, suc, ltb, ℤ, pos, length}
use Rattle.std.proofs.Math.Option.{Option, some, none}
use Rattle.definitions.specs.Ints.{signed_less}
use Rattle.definitions.specs.Refusals.{old_delta, duplicate_part, unknown_snap}
use Rattle.definitions.specs.Tables.{num}
use Rattle.definitions.specs.DeltaReading.{elem}
use Rattle.definitions.specs.Messages.{SnapMsg, Snap, SnapEmpty, SnapSingle, base_tick}
use Rattle.definitions.specs.Receiver.{same}

-- the newest tick, its parts that came, the ticks held, and the acknowledgement
pub record Logbook : Type 0 where
  pub newest : Option ℤ
  pub came : List ℕ
  pub held : List ℤ
  pub acknowledged : Option ℤ

-- at first none
abbrev pub fresh_logbook : Logbook
fresh_logbook = record { newest = none; came = []; held = []; acknowledged = none }

-- the answer to a call: a refusal's number, not yet, or a tick
pub data Answer : Type 0 where
  refused : ℕ → Answer
  not_yet : Answer
  acknowledges : ℤ → Answer

-- an answer, and what is noted then
pub record Note : Type 0 where
  pub answer : Answer
  pub logbook : Logbook

-- whether all of the first n parts came
unfoldable pub all_came : ℕ → List ℕ → Bool
all_came zero came = true
all_came (suc n) came = elem n came && all_came n came

-- whether a tick is among some ticks
unfoldable pub has_tick : ℤ → List ℤ → Bool
has_tick t [] = false
has_tick t (x ∷ l) = same x t || has_tick t l

-- the ticks that are not below another
unfoldable pub not_below : ℤ → List ℤ → List ℤ
not_below b [] = []
not_below b (x ∷ l) = cond (signed_less x b) (not_below b l) (x ∷ not_below b l)

-- the lowest of some ticks
unfoldable pub lowest : ℤ → List ℤ → ℤ
lowest x [] = x
lowest x (y ∷ l) = cond (signed_less y x) (lowest y l) (lowest x l)

-- the ticks but one
unfoldable pub without : ℤ → List ℤ → List ℤ
without t [] = []
without t (x ∷ l) = cond (same x t) (without t l) (x ∷ without t l)

-- one more tick; of 101 the lowest is dropped
abbrev pub holding : ℤ → List ℤ → List ℤ
holding t l = cond (ltb 100 (length (t ∷ l))) (without (lowest t l) (t ∷ l)) (t ∷ l)

-- whether a tick is below the newest, or the newest with all n parts in
abbrev pub late : Option ℤ → List ℕ → ℤ → ℕ → Bool
late none came t n = false
late (some newest) came t n = signed_less t newest || (same t newest && all_came n came)

-- the parts of a tick that came; a tick above the newest has none
abbrev pub came_of : Option ℤ → List ℕ → ℤ → List ℕ
came_of none came t = []
came_of (some newest) came t = cond (same t newest) came []

-- the ticks held when a base is named
abbrev pub held_for : ℤ → List ℤ → List ℤ
held_for b held = cond (signed_less b (pos 0)) held (not_below b held)

-- all parts of t came: it is held and acknowledged if its base is held, or negative
unfoldable pub complete : ℤ → ℤ → List ℕ → List ℤ → Note
complete t b came held =
    cond (signed_less b (pos 0) || has_tick b held)
    (record {
      answer = acknowledges t;
      logbook = record { newest = some t; came = came; held = holding t held; acknowledged = some t };
    })
    (record {
      answer = refused unknown_snap;
      logbook = record { newest = some t; came = came; held = held; acknowledged = none };
    })

-- part p of n came for tick t
unfoldable pub part_came : Logbook → ℤ → ℤ → ℕ → List ℕ → Note
part_came g t b n came =
    cond (all_came n came)
    (complete t b came (held_for b g.held))
    (record {
      answer = not_yet;
      logbook = record { newest = some t; came = came; held = g.held; acknowledged = g.acknowledged };
    })

-- a message of tick t with base b, part p of n
unfoldable pub note : Logbook → ℤ → ℤ → ℕ → ℕ → Note
note g t b p n =
    cond (late g.newest g.came t n)
    (record { answer = refused old_delta; logbook = g })
    (cond (elem p (came_of g.newest g.came t))
    (record { answer = refused duplicate_part; logbook = g })
    (part_came g t b n (p ∷ came_of g.newest g.came t)))

-- a single or an empty message is part 0 of 1
abbrev pub note_message : Logbook → SnapMsg → Note
note_message g (Snap t d n p crc) = note g t (base_tick t d) (num p) (num n)
note_message g (SnapSingle t d crc) = note g t (base_tick t d) 0 1
note_message g (SnapEmpty t d) = note g t (base_tick t d) 0 1
