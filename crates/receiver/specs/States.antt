-- What the code's receiver holds. Assumes nothing.
use Rattle.std.specs.Prelude.{◌≡◌, Bool, cond, List, ℕ, Some, None}
use Rattle.std.proofs.Math.Option.{Option, some, none}
use Rattle.definitions.specs.Receiver as Receiver
use Rattle.ticks.specs.Ticks.{distance_of, tick_of}
use Rattle.std.specs.Prelude as Prelude
use Rattle.receiver.specs.declared.CurrentDelta.{CurrentDelta}
use Rattle.receiver.specs.declared.DeltaReceiver.{DeltaReceiver}
use Rattle.receiver.specs.declared.checked.Ticks.{Ticks}
use Rattle.receiver.specs.declared.checked.Part.{Part}

-- the numbers of an unfinished tick
abbrev pub current_in : CurrentDelta → Receiver.Current
current_in c =
    record { tick = c.tick.0; delta_tick = c.delta_tick.0; num_parts = c.num_parts; crc = c.crc }

-- the unfinished tick, if any
abbrev pub current_of : Prelude.Option CurrentDelta → Option Receiver.Current
current_of (Some c) = some (current_in c)
current_of None = none

-- the receiver with these ticks and lengths
abbrev pub receiver_with : Ticks → List ℕ → Receiver.Receiver
receiver_with t lengths =
    record { previous_tick = tick_of t.previous_tick; current = current_of t.current; parts = lengths }

-- the ticks of a receiver, without the lengths
abbrev pub ticks_of : DeltaReceiver → Ticks
ticks_of r = record { previous_tick = r.previous_tick; current = r.current }

-- the receiver
abbrev pub receiver_of : DeltaReceiver → Receiver.Receiver
receiver_of r = receiver_with (ticks_of r) r.parts

-- an unfinished tick with these lengths
abbrev pub opened_with : CurrentDelta → List ℕ → Receiver.Opened
opened_with c lengths = record { current = current_in c; parts = lengths }

-- the lengths of a tick's parts: those held if it is unfinished, else none
abbrev pub parts_for : Bool → List ℕ → List ℕ
parts_for current lengths = cond current lengths Receiver.no_parts

-- the numbers of a part
abbrev pub part_of : Part → Receiver.Part
part_of m =
    record {
      tick = m.tick.0;
      distance = distance_of m.delta_tick;
      num_parts = m.num_parts;
      part = m.part;
      crc = m.crc;
    }

-- o is the unfinished tick of r if that is the tick of the part m, else what m fixes
abbrev pub Opens : Ticks → Part → CurrentDelta → Type 0
Opens r m o =
    (lengths : List ℕ) → opened_with o (parts_for (Receiver.is_current (receiver_with r lengths) m.tick.0) lengths) ≡ Receiver.opened (receiver_with r lengths) (part_of m)
