-- What the calls that send give: exactly the messages of the table that was added. Assumes nothing.
use Rattle.std.specs.Prelude.{◌≡◌, true, List, [], ◌∷◌, ℕ, zero, suc, ◌≤◌, ◌<◌, ℤ, length, take}
use Rattle.std.proofs.Math.Path.{refl}
use Rattle.std.proofs.Common.{◌∙◌, ap, arith, le-leb, take_all}
use Rattle.std.proofs.Math.Option.{Option, some, none}
use Rattle.definitions.specs.Areas.{lay}
use Rattle.definitions.specs.Outcome.{Outcome, return}
use Rattle.definitions.specs.Packed.{pack_ints}
use Rattle.definitions.specs.Stored.{stored}
use Rattle.definitions.specs.Tables.{Table, table_of, crc}
use Rattle.definitions.specs.TableCalls.{held}
use Rattle.definitions.specs.Deltas.{Delta, delta_ints, delta_of}
use Rattle.definitions.specs.DeltaCalls.{held_delta, sizes_match, writing, write_call}
use Rattle.definitions.specs.Messages.{SnapEmpty, Message, nth_message, delta_chunks, chunk_call, distance}
use Rattle.laws.specs.AreaLaws.{laid-there}
use Rattle.session.specs.SendingCalls.{and_then, asked_for, cut_calls, send_calls}

-- ---- messages one by one

-- the first n messages and the next are the first n + 1
next-taken : (l : List Message) (n : ℕ) → n < length l → and_then (take n l) (nth_message l n) ≡ take (suc n) l
next-taken [] n h = absurd (omega arith)
next-taken (m ∷ l) zero h = refl
next-taken (m ∷ l) (suc n) h = cons-then m (take n l) (nth_message l n) ∙ ap (λ (z : List Message). m ∷ z) (next-taken l n (omega arith))
  where
    cons-then : (m : Message) (l : List Message) (o : Option Message) → and_then (m ∷ l) o ≡ m ∷ and_then l o
    cons-then m l (some x) = refl
    cons-then m l none = refl

-- the first n messages of a list, each asked for
asked-are : (f : ℕ → Outcome (Option Message)) (l : List Message) (n : ℕ) → ((i : ℕ) → f i ≡ return (nth_message l i)) → n ≤ length l
    → asked_for f n ≡ return (take n l)
unfolding asked_for
asked-are f l zero e h = refl
asked-are f l (suc n) e h =
    rw (asked-are f l n e (omega arith), e n) (ap (λ (z : List Message). return z) (next-taken l n (omega arith)))

-- bytes that are not too many are cut into their messages
pub cut-gives : (tick base : ℤ) (x : List ℕ) (sum : ℤ) → length x ≤ 1048576 → cut_calls tick base x sum ≡ return (delta_chunks tick base x sum)
unfolding cut_calls
cut-gives tick base x sum h =
    let l = delta_chunks tick base x sum in
    let q = le-leb (length x) 1048576 h in
    let f : (i : ℕ) → chunk_call tick base x sum i ≡ return (nth_message l i) = λ i. rw q refl in
    rw (q, asked-are (chunk_call tick base x sum) l (length l) f (omega arith)) (ap (λ (z : List Message). return z) (take_all (length l) l (omega arith)))

-- no bytes are cut into the empty message
pub empty-cut : (tick base sum : ℤ) → cut_calls tick base [] sum ≡ return (record { numbers = SnapEmpty tick (distance tick base); bytes = [] } ∷ [])
empty-cut tick base sum = cut-gives tick base [] sum (omega arith) ∙ unfold delta_chunks in refl

-- ---- a table that was added

-- a delta area in form is written under sizes that match its data
writing-is : (sizes delta : List ℤ) (d : Delta) → delta_of delta ≡ some d → sizes_match sizes d.updated ≡ true
    → writing delta sizes ≡ return (delta_ints sizes d)
unfolding writing held_delta
writing-is sizes delta d e m = rw (e, m) refl

-- packed, it is laid into an area that has room
write-gives : (sizes delta : List ℤ) (out : List ℕ) (d : Delta) → delta_of delta ≡ some d → sizes_match sizes d.updated ≡ true
    → let x = pack_ints (delta_ints sizes d) in length x ≤ length out → write_call delta sizes out ≡ record { answer = return (length x); out = lay x out }
unfolding stored
write-gives sizes delta out d e m h =
    rw (writing-is sizes delta d e m, le-leb (length (pack_ints (delta_ints sizes d))) (length out) h) refl

-- the calls that send give the messages of its delta, with the sum of its table
pub send-gives : (sizes : List ℤ) (tick base : ℤ) (table delta : List ℤ) (out : List ℕ) (t : Table) (d : Delta) → table_of table ≡ some t
    → delta_of delta ≡ some d → sizes_match sizes d.updated ≡ true → let x = pack_ints (delta_ints sizes d) in length x ≤ length out → length x ≤ 1048576
    → send_calls sizes tick base table delta out ≡ return (delta_chunks tick base x (crc t))
unfolding send_calls held
send-gives sizes tick base table delta out t d e q m h few =
    let x = pack_ints (delta_ints sizes d) in
    rw (e, write-gives sizes delta out d q m h, laid-there 0 x out (omega arith), cut-gives tick base x (crc t) few) refl
