-- What the answers of `delta_chunks` mean: the refusal's number and the values of each case. Assumes nothing.
use Rattle.std.specs.Prelude.{List, [], ℕ, Result, Ok, Err, Some, None}
use Rattle.std.specs.Prelude as Prelude
use Rattle.std.proofs.Math.Option.{Option, some, none}
use Rattle.definitions.specs.Outcome.{Outcome, ok, err, return, refuse}
use Rattle.definitions.specs.Messages.{Message}
use Rattle.format.specs.Numbers.{number}
use Rattle.format.specs.declared.Error.{Error}
use Rattle.gamenet_snap.specs.Numbers.{numbers}
use Rattle.gamenet_snap.specs.declared.SnapMsg.{SnapMsg}

-- how many messages
abbrev pub chunk_count : Result ℕ Error → Outcome ℕ
chunk_count (Ok n) = return n
chunk_count (Err e) = refuse (number e)

-- a message, from the answer with its numbers and the part with its bytes
abbrev pub chunk_of : Result (Prelude.Option SnapMsg) Error → List ℕ → Outcome (Option Message)
chunk_of (Ok (Some m)) bytes = return (some (record { numbers = numbers m; bytes = bytes }))
chunk_of (Ok None) bytes = return none
chunk_of (Err e) bytes = refuse (number e)

-- the bytes of a message
abbrev pub bytes_in : Option Message → List ℕ
bytes_in (some m) = m.bytes
bytes_in none = []

-- the part that is returned: empty if there is no message or the call is refused
abbrev pub bytes_of : Outcome (Option Message) → List ℕ
bytes_of (ok o w) = bytes_in o
bytes_of (err n w) = []
