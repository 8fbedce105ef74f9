-- The printer's side of demand 3, over the whole list of its calls. Assumes nothing.
use Rattle.std.specs.Prelude.{◌≡◌, Bool, ℕ, ◌<◌, ℤ, pos}
use Rattle.std.proofs.Math.Path.{refl}
use Rattle.std.proofs.Common.{sym, ◌∙◌, ap, subst}
use mathlib.Core.List.{List, [], ◌∷◌, ◌++◌, append_assoc, append-nil}
use Rattle.std.proofs.Math.Option.{some}
use native.Mathlib.Omega.{arith}
use Rattle.definitions.specs.Tables.{Table, num}
use Rattle.definitions.specs.Messages.{Message}
use Rattle.definitions.specs.Storage.{Storage}
use Rattle.definitions.specs.Logbook.{Logbook, fresh_logbook, note_message}
use Rattle.session.specs.Runs.{Accepted, Printer, fresh_printer, PrinterCall, message, left, printer_call, after_received, messages_in, answers, after_notes, noted}
use Rattle.session.specs.Statement.{Among, All, none, more, Rising, Sent, PrinterHolds, AcknowledgedWhen, tick_of, part_of, count_of}
use Rattle.session.specs.Lists.{all_among, all-front, all-at}
use Rattle.session.specs.Room.{Room}
use Rattle.session.specs.Sending.{Goes, as_part, as_single, as_empty, message-goes}
use Rattle.session.specs.PrinterState.{Naming, numbered}
use Rattle.session.specs.PrinterSteps.{Ready}
use Rattle.session.specs.PrinterCalls.{CallLong, Keeps, keeps-storage, keeps-fresh, agree-held, agree-ticks, agree-acknowledged, Alike, call_same}
use Rattle.session.specs.History.{Knows, nothing, message-known}
use Rattle.session.specs.Acknowledging.{acknowledges-when}

-- each of some calls has room, from a printer on
pub data AllRoom (sizes : List ℤ) : Printer → List PrinterCall → Type 0 where
  end : {p : Printer} → AllRoom sizes p []
  next : {p : Printer} {m : Message} {n : ℕ} {cs : List PrinterCall} → Room (CallLong p n) (printer_call sizes p m n).answer
      → AllRoom sizes (left (printer_call sizes p m n)) cs → AllRoom sizes p (message m n ∷ cs)

module _ (sizes : List ℤ) where
  -- those at the front have room
  front-room : (p : Printer) (cs ds : List PrinterCall) → AllRoom sizes p (cs ++ ds) → AllRoom sizes p cs
  front-room p [] ds r = end
  front-room p (message m n ∷ cs) ds (next r rs) = next r (front-room (left (printer_call sizes p m n)) cs ds rs)

  -- the one at a place has
  room_at : (p : Printer) (cs ds : List PrinterCall) (m : Message) (n : ℕ) → AllRoom sizes p (cs ++ message m n ∷ ds)
      → Room (CallLong (after_received sizes p cs) n) (printer_call sizes (after_received sizes p cs) m n).answer
  unfolding after_received
  room_at p [] ds m n (next r rs) = r
  room_at p (message x k ∷ cs) ds m n (next r rs) = room_at (left (printer_call sizes p x k)) cs ds m n rs

-- the messages of two lists of calls
pub messages-append : (xs ys : List PrinterCall) → messages_in (xs ++ ys) ≡ messages_in xs ++ messages_in ys
unfolding messages_in
messages-append [] ys = refl
messages-append (message m n ∷ xs) ys = ap (λ (l : List Message). m ∷ l) (messages-append xs ys)

-- what was found is one
same_some : {a b : Storage} → some a ≡ some b → a ≡ b
same_some e = cc

module _ (sizes : List ℤ) (instead : ℤ → Bool) (es : List Accepted) (At : ℤ → Table → Type 0) (n : ℕ) (up : Rising es) (nm : Naming es At)
    (ready : All (Ready sizes At) es) where
  -- a message that was sent, with the table that it belongs to
  record Known (m : Message) : Type 0 where
    table : Accepted
    among : Among table es
    goes : Goes sizes instead At table m
    number : ℕ
    tick_is : tick_of m.numbers ≡ pos number
    part-below : part_of m.numbers < count_of m.numbers

  -- a table's message has its tick
  goes-tick : {a : Accepted} {m : Message} → Goes sizes instead At a m → tick_of m.numbers ≡ a.tick
  goes-tick (as_part p big l c) = refl
  goes-tick (as_single small l c) = refl
  goes-tick (as_empty small e) = refl

  -- a part number is below the count
  goes-below : {a : Accepted} {m : Message} → Goes sizes instead At a m → part_of m.numbers < count_of m.numbers
  unfolding num
  goes-below (as_part p big l c) = l
  goes-below (as_single small l c) = omega arith
  goes-below (as_empty small e) = omega arith

  -- a message that was sent is known
  known : {m : Message} → Sent sizes instead At es m → Known m
  known {m} s =
      let g = message-goes sizes instead At s.table m s.equal s.carried s.goes in
      let k = numbered up s.accepted in
      record {
        table = s.table;
        among = s.accepted;
        goes = g;
        number = k.number;
        tick_is = goes-tick g ∙ k.tick_is;
        part-below = goes-below g;
      }

  -- printer and logbook after some messages
  record State (xs : List Message) (p : Printer) (g : Logbook) : Type 0 where
    keeps : Keeps sizes instead es At n up nm p g
    knows : Knows xs g

  module _ {p : Printer} {g : Logbook} {m : Message} (scratch : ℕ) (xs : List Message) (s : Sent sizes instead At es m)
      (f : Room (CallLong p scratch) (printer_call sizes p m scratch).answer) (i : State xs p g) where
    -- one call
    call : Alike sizes instead es At n up nm (printer_call sizes p m scratch) (note_message g m.numbers)
    call =
        let q = known s in
        call_same sizes instead es At n up nm i.keeps q.table m scratch q.among (all_among ready q.among) q.goes f

    -- printer and logbook after one message more
    after_one : State (xs ++ m ∷ []) (left (printer_call sizes p m scratch)) (note_message g m.numbers).logbook
    after_one =
        let q = known s in
        record {
          keeps = call.keeps;
          knows = message-known xs m q.number q.tick_is g q.part-below i.knows;
        }

  -- all calls; xs are the messages before
  run : (cs : List PrinterCall) (xs : List Message) (p : Printer) {g : Logbook} → All (Sent sizes instead At es) (messages_in cs) → AllRoom sizes p cs
      → State xs p g → State (xs ++ messages_in cs) (after_received sizes p cs) (after_notes g (messages_in cs))
  unfolding after_received after_notes messages_in
  run [] xs p none end i = rw append-nil i
  run (message m n ∷ cs) xs p (more s ss) (next f fs) i =
      rw (← (append_assoc xs (m ∷ []) (messages_in cs)))
      (run cs (xs ++ m ∷ []) (left (printer_call sizes p m n)) ss fs (after_one n xs s f i))

  -- their answers
  run-answers : (cs : List PrinterCall) (xs : List Message) (p : Printer) {g : Logbook} → All (Sent sizes instead At es) (messages_in cs)
      → AllRoom sizes p cs → State xs p g → answers sizes p cs ≡ noted g (messages_in cs)
  unfolding answers noted messages_in
  run-answers [] xs p none end i = refl
  run-answers (message m n ∷ cs) xs p (more s ss) (next f fs) i =
      rw ((call n xs s f i).answer, run-answers cs (xs ++ m ∷ []) (left (printer_call sizes p m n)) ss fs (after_one n xs s f i)) refl

  module _ (parts joined : List ℕ) (delta : List ℤ) (cs : List PrinterCall) (sent : All (Sent sizes instead At es) (messages_in cs))
      (room : AllRoom sizes (fresh_printer n parts joined delta) cs) where
    -- the printer at first
    abbrev printer : Printer
    printer = fresh_printer n parts joined delta

    -- before any call
    begin : State [] printer fresh_logbook
    begin = record { keeps = keeps-fresh sizes instead es At n up nm parts joined delta; knows = nothing refl }

    -- the messages of those at the front, and behind
    sent-in : (xs ys : List PrinterCall) → cs ≡ xs ++ ys → All (Sent sizes instead At es) (messages_in xs ++ messages_in ys)
    sent-in xs ys e = subst (All (Sent sizes instead At es)) (ap messages_in e ∙ messages-append xs ys) sent

    -- after those at the front
    after : (xs ys : List PrinterCall) → cs ≡ xs ++ ys → State (messages_in xs) (after_received sizes printer xs) (after_notes fresh_logbook (messages_in xs))
    after xs ys e =
        run xs [] printer (all-front (messages_in xs) (messages_in ys) (sent-in xs ys e))
        (front-room sizes printer xs ys (subst (AllRoom sizes printer) e room)) begin

    -- the tables held are those at their ticks, and ticks and acknowledgement are noted
    pub held-noted : (xs ys : List PrinterCall) → cs ≡ xs ++ ys → PrinterHolds At (after_received sizes printer xs) (after_notes fresh_logbook (messages_in xs))
    held-noted xs ys e =
        let i = (after xs ys e).keeps in
        record {
          storage = i.storage;
          in-form = keeps-storage sizes instead es At n up nm i;
          tables = (agree-held sizes instead es At n up nm i.agree).1.accepted;
          ticks = agree-ticks sizes instead es At n up nm i.agree;
          acknowledged = rw i.store_is (agree-acknowledged sizes instead es At n up nm i.agree);
        }

    -- a call acknowledges exactly when its message completes its tick
    pub acknowledged-when : (xs ys : List PrinterCall) (m : Message) (k : ℕ) → cs ≡ xs ++ message m k ∷ ys
        → AcknowledgedWhen sizes (after_received sizes printer xs) (messages_in xs) m k
    unfolding messages_in
    acknowledged-when xs ys m k e h q =
        let i = after xs (message m k ∷ ys) e in
        let s : Sent sizes instead At es m = all-at (messages_in xs) (messages_in ys) m (sent-in xs (message m k ∷ ys) e) in
        let j = known s in
        let h-is : h ≡ i.keeps.storage = same_some (sym q ∙ keeps-storage sizes instead es At n up nm i.keeps) in
        let f = room_at sizes printer xs ys m k (subst (AllRoom sizes printer) e room) in
        rw (h-is, (call k (messages_in xs) s f i).answer)
        (acknowledges-when (messages_in xs) m j.number j.tick_is (agree-held sizes instead es At n up nm i.keeps.agree).1.falls
        (after_notes fresh_logbook (messages_in xs)) j.part-below i.knows (agree-ticks sizes instead es At n up nm i.keeps.agree))

    -- all answers are the logbook's
    pub answers-noted : answers sizes printer cs ≡ noted fresh_logbook (messages_in cs)
    answers-noted = run-answers cs [] printer sent room begin
