-- The receiver of a delta's parts: its state, and what each message does to it. Assumes nothing.
use Rattle.std.specs.Prelude.{Bool, true, false, cond, not, ◌&&◌, ◌||◌, List, [], ◌++◌, ℕ, zero, suc, ◌+◌, ◌*◌, eqb, ltb, leb, ℤ, length, get_or, take, drop, set, replicate}
use Rattle.std.proofs.Math.Option.{Option, some, none}
use Rattle.definitions.specs.Ints.{bits, signed_less}
use Rattle.definitions.specs.Areas.{lay, lay_at}
use Rattle.definitions.specs.Refusals.{old_delta, invalid_num_parts, invalid_part, duplicate_part, scratch_too_short, part_too_long, not_in_form}
use Rattle.definitions.specs.Warnings.{DuplicateSnap, DifferingAttributes}
use Rattle.definitions.specs.Outcome.{Outcome, ok, err, return, require, warn_if, ◌>>◌}
use Rattle.definitions.specs.Tables.{num}
use Rattle.definitions.specs.Messages.{Distance, base_tick}

-- what the first part of the unfinished tick said
pub record Current : Type 0 where
  pub tick : ℤ
  pub delta_tick : ℤ
  pub num_parts : ℕ
  pub crc : ℤ

-- the last finished tick, the unfinished one, and the length of each of its 32 parts, above 900 if a part is not in
pub record Receiver : Type 0 where
  pub previous_tick : Option ℤ
  pub current : Option Current
  pub parts : List ℕ

-- no part is in
abbrev pub no_parts : List ℕ
no_parts = replicate 32 901

-- without any tick
abbrev pub fresh_receiver : Receiver
fresh_receiver = record { previous_tick = none; current = none; parts = no_parts }

-- a tick is finished, and none unfinished
abbrev pub finished_at : ℤ → Receiver
finished_at tick = record { previous_tick = some tick; current = none; parts = no_parts }

-- ---- the parts that are in

-- whether part p is in
abbrev pub is_in : List ℕ → ℕ → Bool
is_in lengths p = leb (get_or lengths p 901) 900

-- how many of the first n parts are in
unfoldable pub count_in : List ℕ → ℕ → ℕ
count_in lengths zero = 0
count_in lengths (suc n) = count_in lengths n + cond (is_in lengths n) 1 0

-- the bytes of part p, which lie at byte 900 p of the first part area
abbrev pub part_in : List ℕ → List ℕ → ℕ → List ℕ
part_in lengths area p = cond (is_in lengths p) (take (get_or lengths p 901) (drop (900 * p) area)) []

-- the first n parts joined, in the order of their numbers
unfoldable pub joined : List ℕ → List ℕ → ℕ → List ℕ
joined lengths area zero = []
joined lengths area (suc n) = joined lengths area n ++ part_in lengths area n

-- ---- form

-- whether a tick is above the last finished
abbrev pub above_previous : Option ℤ → ℤ → Bool
above_previous none tick = true
above_previous (some t) tick = signed_less t tick

-- an unfinished tick is above the last finished one and has 1 to 32 parts, some in and some missing; else no part is in
abbrev pub current_form : Receiver → Option Current → Bool
current_form r none = eqb (count_in r.parts 32) 0
current_form r (some c) =
    above_previous r.previous_tick c.tick
    && (leb c.num_parts 32
    && (ltb 0 (count_in r.parts 32) && ltb (count_in r.parts 32) c.num_parts))

unfoldable pub receiver_form : Receiver → Bool
receiver_form r = current_form r r.current

-- ---- a message

-- two ints of the same bits
abbrev pub same : ℤ → ℤ → Bool
same a b = eqb (bits a) (bits b)

-- whether a tick is old: below the unfinished one or, without one, not above the last finished
abbrev pub old_for : Option ℤ → Option Current → ℤ → Bool
old_for previous (some c) tick = signed_less tick c.tick
old_for previous none tick = not (above_previous previous tick)

unfoldable pub is_old : Receiver → ℤ → Bool
is_old r tick = old_for r.previous_tick r.current tick

-- whether a tick is the unfinished one
abbrev pub is_tick_of : Option Current → ℤ → Bool
is_tick_of none tick = false
is_tick_of (some c) tick = same c.tick tick

unfoldable pub is_current : Receiver → ℤ → Bool
is_current r tick = is_tick_of r.current tick

-- a received delta: its base, its tick and, unless its message was empty, its byte count in the second part area and its sum
pub record DataAndCrc : Type 0 where
  pub length : ℕ
  pub crc : ℤ

pub record ReceivedDelta : Type 0 where
  pub delta_tick : ℤ
  pub tick : ℤ
  pub data_and_crc : Option DataAndCrc

-- what a message leaves, and the delta that it completes, if any
pub record Taken : Type 0 where
  pub received : Option ReceivedDelta
  pub receiver : Receiver
  pub parts : List ℕ
  pub joined : List ℕ

-- the numbers of a part: its tick, distance, part count, part number and sum
pub record Part : Type 0 where
  pub tick : ℤ
  pub distance : Distance
  pub num_parts : ℤ
  pub part : ℤ
  pub crc : ℤ

-- what the first part of a tick says
abbrev pub first_says : Part → Current
first_says m =
    record {
      tick = m.tick;
      delta_tick = base_tick m.tick m.distance;
      num_parts = num m.num_parts;
      crc = m.crc;
    }

-- the tick that a part belongs to, and the parts of it that are in: a newer tick drops the unfinished one
pub record Opened : Type 0 where
  pub current : Current
  pub parts : List ℕ

abbrev pub opened_for : Option Current → List ℕ → Part → Opened
opened_for none lengths m = record { current = first_says m; parts = no_parts }
opened_for (some c) lengths m =
    cond (same c.tick m.tick)
    (record { current = c; parts = lengths })
    (record { current = first_says m; parts = no_parts })

unfoldable pub opened : Receiver → Part → Opened
opened r m = opened_for r.current r.parts m

-- whether a part's base, count or sum is not the first part's
unfoldable pub differs : Current → Part → Bool
differs c m =
    not (same (base_tick m.tick m.distance) c.delta_tick)
    || (not (eqb (num m.num_parts) c.num_parts) || not (same m.crc c.crc))

-- the last missing part came: the tick is finished, and its parts are joined
abbrev pub finish : Opened → List ℕ → List ℕ → Taken
finish o area second =
    record {
      received =
          some (record {
            delta_tick = o.current.delta_tick;
            tick = o.current.tick;
            data_and_crc = some (record { length = length (joined o.parts area 32); crc = o.current.crc });
          });
      receiver = finished_at o.current.tick;
      parts = area;
      joined = lay (joined o.parts area 32) second;
    }

-- parts are still missing
abbrev pub wait : Option ℤ → Opened → List ℕ → List ℕ → Taken
wait previous o area second =
    record {
      received = none;
      receiver = record { previous_tick = previous; current = some o.current; parts = o.parts };
      parts = area;
      joined = second;
    }

-- the tick with one more part
abbrev pub with_part : Opened → ℕ → ℕ → Opened
with_part o p n = record { current = o.current; parts = set o.parts p n }

-- a part came in
unfoldable pub put_part : Option ℤ → Opened → List ℕ → List ℕ → Taken
put_part previous o area second =
    cond (eqb (count_in o.parts 32) o.current.num_parts) (finish o area second) (wait previous o area second)

-- a part of a delta, in the order of docs/FORMAT.md
unfoldable pub take_snap : Receiver → Part → List ℕ → List ℕ → List ℕ → Outcome Taken
take_snap r m bytes area second = do
  require (receiver_form r) not_in_form
  require (leb 28800 (length area) && leb 28800 (length second)) scratch_too_short
  require (leb (length bytes) 900) part_too_long
  require (not (is_old r m.tick)) old_delta
  require (leb (num m.num_parts) 32) invalid_num_parts
  require (ltb (num m.part) (num m.num_parts)) invalid_part
  let o : Opened = opened r m
  let p : ℕ = num m.part
  warn_if (differs o.current m) DifferingAttributes
  require (not (is_in o.parts p)) duplicate_part
  return (put_part r.previous_tick (with_part o p (length bytes)) (lay_at (900 * p) bytes area) second)

-- a whole delta in one message finishes its tick and drops an unfinished one
abbrev pub whole : ℤ → Distance → Option DataAndCrc → List ℕ → List ℕ → Taken
whole tick d bytes area second =
    record {
      received = some (record { delta_tick = base_tick tick d; tick = tick; data_and_crc = bytes });
      receiver = finished_at tick;
      parts = area;
      joined = second;
    }

-- a single message: its bytes go into the second part area
unfoldable pub take_single : Receiver → ℤ → Distance → ℤ → List ℕ → List ℕ → List ℕ → Outcome Taken
take_single r tick d crc bytes area second = do
  require (receiver_form r) not_in_form
  require (leb 28800 (length second)) scratch_too_short
  require (leb (length bytes) 900) part_too_long
  require (not (is_old r tick)) old_delta
  warn_if (is_current r tick) DuplicateSnap
  return (whole tick d (some (record { length = length bytes; crc = crc })) area (lay bytes second))

-- an empty message
unfoldable pub take_empty : Receiver → ℤ → Distance → List ℕ → List ℕ → Outcome Taken
take_empty r tick d area second = do
  require (receiver_form r) not_in_form
  require (not (is_old r tick)) old_delta
  warn_if (is_current r tick) DuplicateSnap
  return (whole tick d none area second)

-- ---- the calls

-- what a call on a receiver answers, and what it leaves
pub record Receives : Type 0 where
  pub answer : Outcome (Option ReceivedDelta)
  pub receiver : Receiver
  pub parts : List ℕ
  pub joined : List ℕ

-- a refused call leaves all as it was
unfoldable pub leaves : Receiver → List ℕ → List ℕ → Outcome Taken → Receives
leaves r area second (ok t w) =
    record { answer = ok t.received w; receiver = t.receiver; parts = t.parts; joined = t.joined }
leaves r area second (err n w) = record { answer = err n w; receiver = r; parts = area; joined = second }

abbrev pub snap_call : Receiver → Part → List ℕ → List ℕ → List ℕ → Receives
snap_call r m bytes area second = leaves r area second (take_snap r m bytes area second)

abbrev pub snap_single_call : Receiver → ℤ → Distance → ℤ → List ℕ → List ℕ → List ℕ → Receives
snap_single_call r tick d crc bytes area second =
    leaves r area second (take_single r tick d crc bytes area second)

abbrev pub snap_empty_call : Receiver → ℤ → Distance → List ℕ → List ℕ → Receives
snap_empty_call r tick d area second = leaves r area second (take_empty r tick d area second)
