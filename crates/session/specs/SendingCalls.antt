-- The calls by which a controller sends a table that it added. Assumes nothing.
use Rattle.std.specs.Prelude.{List, [], ◌∷◌, ◌++◌, ℕ, zero, suc, ℤ, take}
use Rattle.std.proofs.Math.Option.{Option, some, none}
use Rattle.definitions.specs.Outcome.{Outcome, return, ◌>>=◌}
use Rattle.definitions.specs.TableCalls.{crc_call}
use Rattle.definitions.specs.DeltaCalls.{write_call}
use Rattle.definitions.specs.Messages.{Message, num_chunks_call, chunk_call}

-- a message more, if there is one
abbrev pub and_then : List Message → Option Message → List Message
and_then l (some m) = l ++ m ∷ []
and_then l none = l

-- the first n messages, each asked for by its number
unfoldable pub asked_for : (ℕ → Outcome (Option Message)) → ℕ → Outcome (List Message)
asked_for f zero = return []
asked_for f (suc n) = asked_for f n >>= λ l. f n >>= λ m. return (and_then l m)

-- some bytes are cut: `num_chunks`, then `chunk_numbers` and `chunk_data` for each message
unfoldable pub cut_calls : ℤ → ℤ → List ℕ → ℤ → Outcome (List Message)
cut_calls tick base bytes crc = num_chunks_call tick base bytes crc >>= asked_for (chunk_call tick base bytes crc)

-- a table is sent: `raw_snap::crc` of its area, `delta::write` of the delta area into an output area, and what that wrote is cut
unfoldable pub send_calls : List ℤ → ℤ → ℤ → List ℤ → List ℤ → List ℕ → Outcome (List Message)
send_calls sizes tick base table delta out = do
  sum ← crc_call table
  n ← (write_call delta sizes out).answer
  cut_calls tick base (take n (write_call delta sizes out).out) sum
