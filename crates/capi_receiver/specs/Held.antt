-- What the outputs of a call hold. Assumes nothing.
use Rattle.std.specs.Prelude.{List, [], ◌∷◌, ℕ, ℤ, pos, length}
use Rattle.std.proofs.Math.Option.{Option, some, none}
use Rattle.definitions.specs.Messages as Messages
use Rattle.definitions.specs.Messages.{Message}
use Rattle.definitions.specs.Receiver as Receiver
use Rattle.boundary.specs.Boundary.{output}
use Rattle.boundary_states.specs.Rows.{ticks_of_receiver, counts_of_receiver}

-- ---- the receiver's rows

-- the rows of its ticks after a call: the receiver's, or unchanged if the call was refused
abbrev pub ticks_after : List ℤ → Receiver.Receives → List ℤ
ticks_after before o = output (λ _. ticks_of_receiver o.receiver) before o.answer

abbrev pub counts_after : List ℕ → Receiver.Receives → List ℕ
counts_after before o = output (λ _. counts_of_receiver o.receiver) before o.answer

-- ---- a delta that was received

-- 0 without one, 1 with bytes, 2 if the message was empty
abbrev pub kind_of_bytes : Option Receiver.DataAndCrc → ℕ
kind_of_bytes (some b) = 1
kind_of_bytes none = 2

abbrev pub kind_of : Option Receiver.ReceivedDelta → ℕ
kind_of none = 0
kind_of (some d) = kind_of_bytes d.data_and_crc

-- its tick, its base and its sum, 0 if the message was empty; unchanged without one
abbrev pub sum_of : Option Receiver.DataAndCrc → ℤ
sum_of (some b) = b.crc
sum_of none = pos 0

abbrev pub ticks_or : List ℤ → Option Receiver.ReceivedDelta → List ℤ
ticks_or before none = before
ticks_or before (some d) = d.tick ∷ d.delta_tick ∷ sum_of d.data_and_crc ∷ []

-- how many bytes were joined, 0 if the message was empty; unchanged without one
abbrev pub length_of : Option Receiver.DataAndCrc → ℕ
length_of (some b) = b.length
length_of none = 0

abbrev pub length_or : ℕ → Option Receiver.ReceivedDelta → ℕ
length_or before none = before
length_or before (some d) = length_of d.data_and_crc

-- ---- a message

-- 0 without one, 1 for a part, 2 for an empty one, 3 for a single one
abbrev pub kind_of_numbers : Messages.SnapMsg → ℕ
kind_of_numbers (Messages.Snap tick d n part crc) = 1
kind_of_numbers (Messages.SnapEmpty tick d) = 2
kind_of_numbers (Messages.SnapSingle tick d crc) = 3

abbrev pub kind_of_message : Option Message → ℕ
kind_of_message none = 0
kind_of_message (some m) = kind_of_numbers m.numbers

-- its tick, distance, part count, part number and sum, 0 for a number that it lacks; unchanged without one
abbrev pub row_of : Messages.SnapMsg → List ℤ
row_of (Messages.Snap tick d n part crc) = tick ∷ d.ticks ∷ n ∷ part ∷ crc ∷ []
row_of (Messages.SnapEmpty tick d) = tick ∷ d.ticks ∷ pos 0 ∷ pos 0 ∷ pos 0 ∷ []
row_of (Messages.SnapSingle tick d crc) = tick ∷ d.ticks ∷ pos 0 ∷ pos 0 ∷ crc ∷ []

abbrev pub numbers_or : List ℤ → Option Message → List ℤ
numbers_or before none = before
numbers_or before (some m) = row_of m.numbers

-- how many bytes it has, 0 without one
abbrev pub bytes_in : Option Message → ℕ
bytes_in none = 0
bytes_in (some m) = length m.bytes
