-- A printer's call on a message of an accepted table: its answer is the logbook's, and both agree afterwards. Assumes nothing.
use Rattle.std.specs.Prelude.{◌≡◌, refl, Bool, true, false, ◌&&◌, List, ℕ, suc, ◌≤◌, leb, ℤ, length}
use Rattle.std.proofs.Common.{sym, subst, leb-true, le-leb}
use Rattle.std.proofs.Math.Option.{some}
use Rattle.definitions.specs.Refusals.{scratch_too_short}
use Rattle.definitions.specs.Warnings.{Counts}
use Rattle.definitions.specs.Outcome.{err}
use Rattle.definitions.specs.Tables.{Table}
use Rattle.definitions.specs.Messages.{Message}
use Rattle.definitions.specs.Receiver.{Receiver}
use Rattle.definitions.specs.Storage.{Storage, fresh_storage, beside, storage_of}
use Rattle.definitions.specs.StorageCalls.{held_storage}
use Rattle.definitions.specs.Manager.{ManagerStep, judge_manager, managed}
use Rattle.definitions.specs.Logbook.{Logbook, fresh_logbook, Note, note_message}
use Rattle.laws.specs.TableShape.{both}
use Rattle.laws.specs.StoreForm.{LaidIn, storage-found, fresh-area, length-area}
use Rattle.session.specs.Runs.{Accepted, Printer, fresh_printer, left, printer_call, answer_of}
use Rattle.session.specs.Statement.{Among, Rising, PrinterLong}
use Rattle.session.specs.Lengths.{packed_bytes}
use Rattle.session.specs.Room.{Room, told, long, room-map, StoreLong, BothLong}
use Rattle.session.specs.Lists.{contra, either}
use Rattle.session.specs.HeldTicks.{ticks}
use Rattle.session.specs.Sending.{Goes}
use Rattle.session.specs.PrinterState.{Naming, named-sounds, Held, Agree, fresh, finished, waiting, agree-form}
use Rattle.session.specs.ReceiverSteps.{Gives, Refuses, given, refusal}
use Rattle.session.specs.PrinterSteps.{Ready}
use Rattle.session.specs.PrinterWhole.{held-nothing}
use Rattle.session.specs.PrinterMessages.{message-same}

-- areas and scratch of a call that always suffice
abbrev pub CallLong : Printer → ℕ → Type 0
CallLong p scratch = PrinterLong p × (packed_bytes ≤ scratch)

module _ (sizes : List ℤ) (instead : ℤ → Bool) (es : List Accepted) (At : ℤ → Table → Type 0) (n : ℕ) (up : Rising es) (nm : Naming es At) where
  -- what is held, below some tick
  pub agree-held : {r : Receiver} {area : List ℕ} {s : Storage} {g : Logbook} → Agree sizes instead es At n r area s g
      → (k : ℕ) × Held sizes instead es At n k s.snaps
  agree-held fresh = (0, held-nothing sizes instead es At n 0)
  agree-held (finished {t = t} m e c h) = (suc t, h)
  agree-held (waiting {t = t} m e big carried hold c some_in above h) = (t, h)

  -- the ticks held are the noted ones
  pub agree-ticks : {r : Receiver} {area : List ℕ} {s : Storage} {g : Logbook} → Agree sizes instead es At n r area s g → ticks s.snaps ≡ g.held
  agree-ticks fresh = refl
  agree-ticks (finished m e c h) = refl
  agree-ticks (waiting m e big carried hold c some_in above h) = refl

  -- the acknowledgement is the noted one
  pub agree-acknowledged : {r : Receiver} {area : List ℕ} {s : Storage} {g : Logbook} → Agree sizes instead es At n r area s g → s.ack_tick ≡ g.acknowledged
  agree-acknowledged fresh = refl
  agree-acknowledged (finished m e c h) = refl
  agree-acknowledged (waiting m e big carried hold c some_in above h) = refl

  -- a printer's store is laid out in its area, and its receiver and store agree with the logbook
  pub record Keeps (p : Printer) (g : Logbook) : Type 0 where
    pub storage : Storage
    pub store_is : p.store ≡ beside storage
    pub area-is : LaidIn n storage.snaps p.area
    pub agree : Agree sizes instead es At n p.receiver p.parts storage g

  module _ {p : Printer} {g : Logbook} (k : Keeps p g) where
    -- what its area holds
    pub keeps-storage : storage_of p.store p.area ≡ some k.storage
    keeps-storage =
        let h = (agree-held k.agree).1 in
        rw (k.store_is, k.area-is) (storage-found n k.storage (named-sounds nm h.accepted) h.few)

    -- the area stays as long as it was
    keeps-length : length p.area ≡ n
    keeps-length = rw k.area-is (length-area n k.storage.snaps (agree-held k.agree).1.room)

    module _ (scratch : ℕ) where
      -- part areas and scratch are long enough
      abbrev enough : Bool
      enough = leb 28800 scratch && (leb 28800 (length p.parts) && leb 28800 (length p.joined))

      -- receiver and store are in form
      judged : enough ≡ true
          → Gives (judge_manager p.receiver p.store p.area (length p.parts) (length p.joined) scratch)
          (record { receiver = p.receiver; storage = k.storage })
      unfolding judge_manager held_storage
      judged e = rw (agree-form sizes instead es At n k.agree, keeps-storage, e) (given _ _)

      -- if they are not, the call is refused for that
      too_short : enough ≡ false → Refuses (judge_manager p.receiver p.store p.area (length p.parts) (length p.joined) scratch) scratch_too_short
      unfolding judge_manager held_storage
      too_short e = rw (agree-form sizes instead es At n k.agree, keeps-storage, e) (refusal _ _)

      -- long areas are long enough
      long-enough : CallLong p scratch → enough ≡ true
      long-enough l =
          rw (le-leb 28800 scratch l.1, le-leb 28800 (length p.parts) l.0.parts, le-leb 28800 (length p.joined) l.0.joined) refl

      -- so a call is not refused for want of scratch
      not_short : {A : Type 0} {w : Counts} → enough ≡ false → Room {A = A} (CallLong p scratch) (err scratch_too_short w) → ⊥
      not_short e (told s) = s.1 refl
      not_short e (long l) = contra (long-enough l) e

      -- and the areas have room
      both_long : CallLong p scratch → BothLong n (length p.delta)
      both_long l = let a = l.0.area in (subst (λ (z : ℕ). StoreLong z) keeps-length a, l.0.delta)

  -- a call's answer is the logbook's, and both agree afterwards
  pub record Alike (s : ManagerStep) (k : Note) : Type 0 where
    pub answer : answer_of s.answer ≡ k.answer
    pub keeps : Keeps (left s) k.logbook

  -- a message of an accepted table, where areas and scratch suffice
  pub call_same : {p : Printer} {g : Logbook} (k : Keeps p g) (a : Accepted) (x : Message) (scratch : ℕ) → Among a es → Ready sizes At a
      → Goes sizes instead At a x → Room (CallLong p scratch) (printer_call sizes p x scratch).answer
      → Alike (printer_call sizes p x scratch) (note_message g x.numbers)
  unfolding managed
  call_same {p} {g} k a x scratch m y goes s =
      either (enough k scratch)
      (λ e.
      let j = judged k scratch e in
      let b = both (leb 28800 scratch) _ e in
      let c = both (leb 28800 (length p.parts)) _ b.1 in
      let r = room-map (both_long k scratch) (rw (j.gives, keeps-length k) at s) in
      let q = message-same sizes instead es At n up nm a m y p.receiver k.storage g p.parts p.joined p.delta (leb-true _ _ c.0)
      (leb-true _ _ c.1) k.agree x goes r in
      rw (j.gives, keeps-length k)
      (record {
        answer = q.answer;
        keeps = record { storage = _; store_is = refl; area-is = refl; agree = q.agree };
      }))
      (λ e. absurd (not_short k scratch e (rw (too_short k scratch e).refuses at s)))

  -- at first nothing is held or noted
  pub keeps-fresh : (parts joined : List ℕ) (delta : List ℤ) → Keeps (fresh_printer n parts joined delta) fresh_logbook
  keeps-fresh parts joined delta =
      record { storage = fresh_storage; store_is = refl; area-is = sym (fresh-area n); agree = fresh }
