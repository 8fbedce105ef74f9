-- The calls on delta areas, and on the differences of single items. Assumes nothing.
use Rattle.std.specs.Prelude.{Bool, true, cond, ◌&&◌, List, [], ◌∷◌, ℕ, ◌/◌, leb, eqb, ℤ, length}
use Rattle.std.proofs.Math.Option.{Option, some, none}
use Rattle.definitions.specs.Ints.{from_bits}
use Rattle.definitions.specs.Refusals.{delta_differing_sizes, capacity_error, scratch_too_short, input_too_long, known_size_differs}
use Rattle.definitions.specs.Outcome.{Outcome, ok, err, return, require, ◌>>=◌, ◌>>◌, Wrote}
use Rattle.definitions.specs.Packed.{pack_ints}
use Rattle.definitions.specs.Stored.{stored}
use Rattle.definitions.specs.Stream.{stream}
use Rattle.definitions.specs.Tables.{Item, Table, items}
use Rattle.definitions.specs.TableCalls.{or_not_in_form, held}
use Rattle.definitions.specs.Deltas.{Delta, known_size, delta_ints, written_delta, delta_of}
use Rattle.definitions.specs.DeltaMaking.{first_clash, create_delta, create_item_delta, apply_item_delta}
use Rattle.definitions.specs.DeltaReading.{DeltaRead, int_stream, read_delta}

-- the delta that an area holds
unfoldable pub held_delta : List ℤ → Outcome Delta
held_delta area = or_not_in_form (delta_of area)

-- a known size is the data's length
abbrev pub is_size : Option ℕ → ℕ → Bool
is_size (some m) n = eqb m n
is_size none n = true

-- the known sizes are those of the updates
unfoldable pub sizes_match : List ℤ → List Item → Bool
sizes_match sizes [] = true
sizes_match sizes (x ∷ l) =
    is_size (known_size sizes (x.key / 65536)) (length x.values) && sizes_match sizes l

-- a delta of an area, to be written under known sizes
unfoldable pub writing : List ℤ → List ℤ → Outcome (List ℤ)
writing area sizes = do
  d ← held_delta area
  require (sizes_match sizes d.updated) known_size_differs
  return (delta_ints sizes d)

-- a delta that was read, laid over the front of an area; repeated entries count towards the room
unfoldable pub stored_delta : List ℤ → Outcome DeltaRead → Wrote ℕ ℤ
stored_delta out o =
    stored out do
      r ← o
      require (leb r.room (length out)) capacity_error
      return (written_delta r.delta)

-- ---- the key that clashes

-- a key as an int
abbrev pub key_int : Option ℕ → Option ℤ
key_int (some k) = some (from_bits k)
key_int none = none

-- the key beside an answer: 10 comes with the first that clashes, every other answer with none
module _ {A : Type 0} where
  abbrev pub clash_of : Outcome A → Table → Table → Option ℤ
  clash_of (ok a w) b t = none
  clash_of (err n w) b t = cond (eqb n delta_differing_sizes) (key_int (first_clash b t)) none

-- ---- the calls

abbrev pub clear_call : List ℤ → Wrote ℕ ℤ
clear_call out = stored out (return (written_delta (record { deleted = []; updated = [] })))

abbrev pub create_call : List ℤ → List ℤ → List ℤ → Wrote ℕ ℤ
create_call base target out =
    stored out do
      b ← held base
      t ← held target
      d ← create_delta b t
      return (written_delta d)

-- the key beside the answer; areas that hold no table have none
abbrev pub create_clash : List ℤ → List ℤ → List ℤ → Option ℤ
create_clash base target out = clash_of (create_call base target out).answer (items base) (items target)

abbrev pub write_to_ints_call : List ℤ → List ℤ → List ℤ → Wrote ℕ ℤ
write_to_ints_call area sizes out = stored out (writing area sizes)

abbrev pub write_call : List ℤ → List ℤ → List ℕ → Wrote ℕ ℕ
write_call area sizes out = stored out (writing area sizes >>= λ l. return (pack_ints l))

-- the length of scratch is judged first
abbrev pub read_from_ints_call : List ℤ → List ℤ → List ℤ → ℕ → Wrote ℕ ℤ
read_from_ints_call src sizes out scratch =
    stored_delta out do
      require (leb 16384 scratch) scratch_too_short
      require (leb (length src) 1048576) input_too_long
      read_delta sizes (int_stream src)

abbrev pub read_call : List ℕ → List ℤ → List ℤ → ℕ → Wrote ℕ ℤ
read_call src sizes out scratch =
    stored_delta out do
      require (leb 16384 scratch && leb (length src) scratch) scratch_too_short
      require (leb (length src) 1048576) input_too_long
      read_delta sizes (stream src)

abbrev pub create_item_delta_call : Option (List ℤ) → List ℤ → List ℤ → Wrote ℕ ℤ
create_item_delta_call from to out = stored out (create_item_delta from to)

abbrev pub apply_item_delta_call : Option (List ℤ) → List ℤ → List ℤ → Wrote ℕ ℤ
apply_item_delta_call from delta out = stored out (apply_item_delta from delta)
