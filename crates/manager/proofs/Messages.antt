-- A message: how it is received and judged, and the refusals before anything is done. Assumes nothing.
use mathlib.Core.Path.{◌≡◌, refl, ap, ◌∙◌, subst}
use mathlib.Core.Bool.{true, false}
use mathlib.Core.List.{List, []}
use mathlib.Core.Option.{Option, some, none}
use Prim.Native.Nat.{ℕ, ◌≤◌, ◌<◌}
use native.Mathlib.Omega.{arith}
use borrow.Author.Tests.{le-leb, lt-leb}
use lib.IntN.{ℤ}
use lib.ListN.{length}
use Rattle.definitions.specs.Refusals.{not_in_form, scratch_too_short}
use Rattle.definitions.specs.Outcome.{Outcome, ok, err}
use Rattle.definitions.specs.Warnings.{Counts}
use Rattle.definitions.specs.Messages.{SnapEmpty, Message}
use Rattle.definitions.specs.Messages as Messages
use Rattle.definitions.specs.Receiver as Receiver
use Rattle.definitions.specs.Storage as Store
use Rattle.definitions.specs.StorageCalls as Calls
use Rattle.definitions.specs.Manager as Manager
use Rattle.format.specs.Totals.{counts}
use Rattle.ticks.specs.Ticks.{distance_of}
use Rattle.ticks.specs.declared.Tick.{Tick}
use Rattle.ticks.specs.declared.Distance.{Distance}
use Rattle.gamenet_snap.specs.Numbers.{numbers}
use Rattle.gamenet_snap.specs.declared.SnapMsg.{SnapMsg}
use Rattle.gamenet_snap.specs.declared.SnapMsg.TheVariants as msg
use Rattle.receiver.specs.Answers.{received_with, answered}
use Rattle.receiver.specs.declared.Received.{Received}
use Rattle.receiver.specs.declared.Received.TheVariants as received
use Rattle.receiver.specs.declared.Receiving.{Receiving}
use Rattle.store_area.specs.Stores.{holds_in}
use Rattle.manager.specs.Steps.{Short, Brought, laid_out, refusing}
use Rattle.laws.specs.WarningKinds.{of_receiver, Told, value, refusal}
use Rattle.std.specs.Prelude.{Err, None, Ok, Result, Some}
use Rattle.std.specs.Prelude as Prelude
use Rattle.format.specs.declared.Error.{Error}
use Rattle.manager.proofs.ReceiverKinds.{Few, NoBytes, receive-told, empty-brings}

-- ---- the receiver's call, by the message

module _ (r : Receiver.Receiver) (m : SnapMsg) (bytes parts joined : List ℕ) (x : Receiver.Receives) (tick : Tick) (d : Distance) where
  pub by_part : (n part crc n2 part2 crc2 : ℤ) → n2 ≡ n → part2 ≡ part → crc2 ≡ crc → m ≡ msg.Snap tick d n part crc → Receiver.snap_call r (record { tick = tick.0; distance = distance_of d; num_parts = n2; part = part2; crc = crc2 }) bytes parts joined ≡ x → Manager.receive r (numbers m) bytes parts joined ≡ x
  by_part n part crc n2 part2 crc2 en ep ec e h = rw (e, ← en, ← ep, ← ec) h

  pub by-single : (crc crc2 : ℤ) → crc2 ≡ crc → m ≡ msg.SnapSingle tick d crc → Receiver.snap_single_call r tick.0 (distance_of d) crc2 bytes parts joined ≡ x → Manager.receive r (numbers m) bytes parts joined ≡ x
  by-single crc crc2 ec e h = rw (e, ← ec) h

  pub by-empty : m ≡ msg.SnapEmpty tick d → Receiver.snap_empty_call r tick.0 (distance_of d) parts joined ≡ x → Manager.receive r (numbers m) bytes parts joined ≡ x
  by-empty e h = rw e h

-- what was received is known to be short, with a receiver's warnings
told-brought : (x : Result (Prelude.Option Received) Error) (w : Counts) → Told of_receiver Few (received_with x w) → Short x × (w ≡ of_receiver w)
told-brought (Ok None) w (value p e) = (tt, e)
told-brought (Ok (Some (received.Delta tick base n crc))) w (value p e) = (p, e)
told-brought (Ok (Some (received.Empty tick base))) w (value p e) = (tt, e)
told-brought (Err n) w (refusal e) = (tt, e)

pub brought : (r : Receiver.Receiver) (m : SnapMsg) (bytes parts joined parts_then joined_then : List ℕ) (a : Receiving) → Manager.receive r (numbers m) bytes parts joined ≡ answered a parts_then joined_then → Brought a
brought r m bytes parts joined parts_then joined_then a e =
    let t = subst (λ (x : Receiver.Receives). Told of_receiver Few x.answer) e (receive-told r parts joined (numbers m) bytes) in
    let b = told-brought a.answer (counts a.warnings) t in
    record { short = b.0; kinds = b.1 }

-- ---- the message

module _ (sizes : List ℤ) (r : Receiver.Receiver) (m : Message) (parts joined : List ℕ) (delta area : List ℤ) where
  -- it is received, and then goes on
  pub handles : (h : Store.Storage) (x : Receiver.Receives) (y : Manager.ManagerStep) → Manager.receive r m.numbers m.bytes parts joined ≡ x → laid_out area (Manager.after_receiving sizes (length area) x h delta x.answer) ≡ y → laid_out area (Manager.handle sizes (length area) (record { receiver = r; storage = h }) m parts joined delta) ≡ y
  unfolding Manager.handle
  handles h x y e f =
      ap (λ (z : Receiver.Receives). laid_out area (Manager.after_receiving sizes (length area) z h delta z.answer)) e ∙ f

  module _ (s : Store.Store) (n : ℕ) where
    -- the call
    abbrev Call : Manager.ManagerStep
    Call = Manager.message_call sizes r s m parts joined delta area n

    -- the receiver is not in form
    pub receiver-47 : Receiver.receiver_form r ≡ false → Call ≡ refusing not_in_form r s parts joined delta area
    unfolding Manager.judge_manager Manager.managed
    receiver-47 e = rw e

    module _ (e : Receiver.receiver_form r ≡ true) where
      -- the store is not
      pub store-47 : Store.storage_of s area ≡ none → Call ≡ refusing not_in_form r s parts joined delta area
      unfolding Manager.judge_manager Manager.managed Calls.held_storage
      store-47 f = rw (e, f)

      module _ (f : Store.storage_of s area ≡ some (holds_in s area)) where
        -- scratch is too short
        pub scratch-41 : n < 28800 → Call ≡ refusing scratch_too_short r s parts joined delta area
        unfolding Manager.judge_manager Manager.managed Calls.held_storage
        scratch-41 l = rw (e, f, lt-leb 28800 n l)

        module _ (g : 28800 ≤ n) where
          -- the first part area is
          pub parts-41 : length parts < 28800 → Call ≡ refusing scratch_too_short r s parts joined delta area
          unfolding Manager.judge_manager Manager.managed Calls.held_storage
          parts-41 l = rw (e, f, le-leb 28800 n g, lt-leb 28800 (length parts) l)

          module _ (h : 28800 ≤ length parts) where
            -- the second is
            pub joined-41 : length joined < 28800 → Call ≡ refusing scratch_too_short r s parts joined delta area
            unfolding Manager.judge_manager Manager.managed Calls.held_storage
            joined-41 l = rw (e, f, le-leb 28800 n g, le-leb 28800 (length parts) h, lt-leb 28800 (length joined) l)

            -- all is as it should be
            pub judged : 28800 ≤ length joined → Call ≡ laid_out area (Manager.handle sizes (length area) (record { receiver = r; storage = holds_in s area }) m parts joined delta)
            unfolding Manager.judge_manager Manager.managed Calls.held_storage
            judged l = rw (e, f, le-leb 28800 n g, le-leb 28800 (length parts) h, le-leb 28800 (length joined) l)

-- ---- an empty message asks for no sizes

module _ (sizes others : List ℤ) where
  no-sizes : (n : ℕ) (x : Receiver.Receives) (s : Store.Storage) (delta : List ℤ) {o : Outcome (Option Receiver.ReceivedDelta)} → Told of_receiver NoBytes o → Manager.after_receiving sizes n x s delta o ≡ Manager.after_receiving others n x s delta o
  unfolding Manager.after_receiving
  no-sizes n x s delta (refusal e) = refl
  no-sizes n x s delta (value {a = none} p e) = refl
  no-sizes n x s delta (value {a = some d} {w = w} p e) =
      ap (Manager.after_reading n w x d s delta) (same x.joined (length delta) d.data_and_crc p)
    where
      same : (bytes : List ℕ) (k : ℕ) (c : Option Receiver.DataAndCrc) → c ≡ none → Manager.fitting_delta sizes bytes k c ≡ Manager.fitting_delta others bytes k c
      same bytes k none q = unfold Manager.fitting_delta in refl
      same bytes k (some y) q = let z : ◌≡◌ {A = ℕ} 0 1 = cc in absurd (omega arith)

  module _ (tick : ℤ) (d : Messages.Distance) (parts joined : List ℕ) (delta area : List ℤ) where
    -- an empty message
    abbrev Empty : Message
    Empty = record { numbers = SnapEmpty tick d; bytes = [] }

    handled-same : (n : ℕ) (g : Manager.Manager) → Manager.handle sizes n g Empty parts joined delta ≡ Manager.handle others n g Empty parts joined delta
    unfolding Manager.handle
    handled-same n g =
        no-sizes n (Manager.receive g.receiver (SnapEmpty tick d) [] parts joined) g.storage delta (empty-brings g.receiver parts joined tick d [])

    managed-same : (r : Receiver.Receiver) (s : Store.Store) (o : Outcome Manager.Manager) → Manager.managed sizes r s Empty parts joined delta area o ≡ Manager.managed others r s Empty parts joined delta area o
    unfolding Manager.managed
    managed-same r s (ok g w) = ap (laid_out area) (handled-same (length area) g)
    managed-same r s (err k w) = refl

    pub empty-same : (r : Receiver.Receiver) (s : Store.Store) (n : ℕ) → Manager.message_call sizes r s Empty parts joined delta area n ≡ Manager.message_call others r s Empty parts joined delta area n
    empty-same r s n = managed-same r s (Manager.judge_manager r s area (length parts) (length joined) n)
