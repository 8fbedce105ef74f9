-- A message of an accepted table for a manager: its answer is the logbook's, and both agree afterwards. Assumes nothing.
use Rattle.std.specs.Prelude.{◌≡◌, ◌⊎◌, Bool, true, false, ℕ, ◌≤◌, ◌<◌, ℤ, pos}
use Rattle.std.proofs.Math.Path.{refl, subst}
use Rattle.std.proofs.Common.{sym, inl, inr, arith}
use mathlib.Core.List.{List, []}
use Rattle.std.proofs.Math.Option.{Option, some}
use Rattle.std.proofs.Math.ListN.{length}
use Rattle.definitions.specs.Areas.{lay}
use Rattle.definitions.specs.Outcome.{return, ◌>>=◌}
use Rattle.definitions.specs.Tables.{Table, num, crc}
use Rattle.definitions.specs.Messages.{Snap, SnapEmpty, SnapSingle, Message, num_parts, part_bytes, base_tick, distance}
use Rattle.definitions.specs.Applying.{apply_delta}
use Rattle.definitions.specs.Types.{typed}
use Rattle.definitions.specs.Receiver.{Receiver, take_single, take_empty}
use Rattle.definitions.specs.Storage.{Storage}
use Rattle.definitions.specs.Manager.{handle, empty_delta, empty_read}
use Rattle.definitions.specs.Logbook.{Logbook, note_message}
use Rattle.laws.specs.AreaLaws.{laid-there}
use Rattle.session.specs.Runs.{Accepted, packed, empty_message}
use Rattle.session.specs.Statement.{Among, Rising, Base, Carried}
use Rattle.session.specs.Room.{Room, BothLong}
use Rattle.session.specs.HeldTicks.{same_self}
use Rattle.session.specs.Sending.{is_large, Goes, as_part, as_single, as_empty, part_of_table, single_of_table}
use Rattle.session.specs.PrinterState.{Naming, Numbered, numbered, Agree}
use Rattle.session.specs.ReceiverSteps.{single-old, single-takes, empty-old, empty-takes}
use Rattle.session.specs.PrinterSteps.{Ready, one-base, base_back, Same}
use Rattle.session.specs.PrinterWhole.{whole_same}
use Rattle.session.specs.PrinterParts.{part_same}

module _ (sizes : List ℤ) (instead : ℤ → Bool) (es : List Accepted) (At : ℤ → Table → Type 0) (n : ℕ) (up : Rising es) (nm : Naming es At) where
  module _ (a : Accepted) (m : Among a es) (y : Ready sizes At a) (r : Receiver) (s : Storage) (g : Logbook) (area second : List ℕ) (delta : List ℤ) (first : 28800 ≤ length area) (other : 28800 ≤ length second) (agree : Agree sizes instead es At n r area s g) where
    -- what is claimed of a message
    abbrev Claim : Message → Type 0
    Claim x =
        Room (BothLong n (length delta)) (handle sizes n (record { receiver = r; storage = s }) x area second delta).answer → Same sizes instead es At n (handle sizes n (record { receiver = r; storage = s }) x area second delta) (note_message g x.numbers)

    -- the table's tick as a number
    k : Numbered a
    k = numbered up m

    -- its distance leads back to its base
    back : base_tick (pos k.number) (distance (pos k.number) a.base) ≡ a.base
    back = base_back k.number nm y.named

    -- an empty delta makes the table, where the table is equal to its base or the delta is empty
    empty-made : Base At a.base a.table ⊎ (a.delta ≡ empty_delta) → (apply_delta y.base empty_delta >>= typed) ≡ return a.table
    empty-made (inl b) = rw (one-base nm b y.named) y.unchanged
    empty-made (inr e) = rw (← e) y.applies

    -- a part of several
    part : (p : ℕ) → is_large sizes instead a ≡ true → p < num_parts (packed sizes a) → Carried sizes a → Claim (part_of_table sizes instead a p)
    unfolding handle num
    part p large below carried =
        subst (λ (t : ℤ). Claim (record { numbers = Snap t (distance t a.base) (pos (num_parts (packed sizes a))) (pos p) (crc a.table); bytes = part_bytes (packed sizes a) p })) (sym k.tick_is)
        (λ s. rw back (part_same sizes instead es At n up nm m k.tick_is large carried y p below area second delta first other back agree s))

    -- the single message
    single : is_large sizes instead a ≡ false → length (packed sizes a) ≤ 900 → Carried sizes a → Claim (single_of_table sizes instead a)
    unfolding handle
    single small short carried =
        subst (λ (t : ℤ). Claim (record { numbers = SnapSingle t (distance t a.base) (crc a.table); bytes = packed sizes a })) (sym k.tick_is)
        (λ s.
        rw back
        (whole_same sizes instead es At n up nm m k.tick_is small area second delta
        (λ r. take_single r (pos k.number) (distance (pos k.number) a.base) (crc a.table) (packed sizes a) area second)
        (some (record { length = length (packed sizes a); crc = crc a.table }))
        (lay (packed sizes a) second) y.read y.base y.room
        (λ r form o. single-old r (pos k.number) (distance (pos k.number) a.base) (crc a.table) (packed sizes a) area second form other short o)
        (λ r form o. rw back at (single-takes r (pos k.number) (distance (pos k.number) a.base) (crc a.table) (packed sizes a) area second form other short o))
        (rw (laid-there 0 (packed sizes a) second (omega arith)) (y.reads carried.matches))
        (same_self (crc a.table)) y.named (rw y.delta-is y.applies) agree s))

    -- the empty message
    empty : is_large sizes instead a ≡ false → Base At a.base a.table ⊎ (a.delta ≡ empty_delta) → Claim (empty_message a)
    unfolding handle
    empty small e =
        subst (λ (t : ℤ). Claim (record { numbers = SnapEmpty t (distance t a.base); bytes = [] })) (sym k.tick_is)
        (λ s.
        rw back
        (whole_same sizes instead es At n up nm m k.tick_is small area second delta
        (λ r. take_empty r (pos k.number) (distance (pos k.number) a.base) area second)
        Option.none second empty_read y.base (omega arith)
        (λ r form o. empty-old r (pos k.number) (distance (pos k.number) a.base) area second form o)
        (λ r form o. rw back at (empty-takes r (pos k.number) (distance (pos k.number) a.base) area second form o))
        refl refl y.named (empty-made e) agree s))

    -- a message of an accepted table
    pub message-same : (x : Message) → Goes sizes instead At a x → Claim x
    message-same x (as_part p large below carried) = part p large below carried
    message-same x (as_single small short carried) = single small short carried
    message-same x (as_empty small e) = empty small e
