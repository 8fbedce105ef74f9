-- Single and empty messages: the printer answers as the logbook does. Assumes nothing.
use Rattle.std.specs.Prelude.{◌≡◌, refl, Bool, ℕ, ◌<◌, ◌≤◌, ltb, eqb, ℤ, pos, length}
use Rattle.std.proofs.Common.{sym, ◌∙◌, ap, arith}
use Rattle.std.proofs.Math.Bool.{true, false}
use mathlib.Core.List.{List, [], ◌∷◌}
use Rattle.std.proofs.Math.Option.{Option}
use borrow.Author.Tests.{ltb-true, ltb-false, eqb-true, eqb-false}
use Rattle.definitions.specs.Refusals.{old_delta}
use Rattle.definitions.specs.Outcome.{Outcome, return, ◌>>=◌}
use Rattle.definitions.specs.Tables.{Table}
use Rattle.definitions.specs.DeltaReading.{DeltaRead}
use Rattle.definitions.specs.Applying.{apply_delta}
use Rattle.definitions.specs.Types.{typed}
use Rattle.definitions.specs.Receiver.{Receiver, fresh_receiver, finished_at, receiver_form, is_old, DataAndCrc, Taken}
use Rattle.definitions.specs.Storage.{Storage, sum_fits}
use Rattle.definitions.specs.Manager.{received_delta, sum_of}
use Rattle.definitions.specs.Logbook.{Logbook, all_came, note, part_came}
use Rattle.laws.specs.StoreForm.{room-none}
use Rattle.session.specs.Runs.{Accepted}
use Rattle.session.specs.Statement.{Among, none, Rising, Base}
use Rattle.session.specs.Lengths.{delta_area_ints}
use Rattle.session.specs.Room.{Room, BothLong}
use Rattle.session.specs.Lists.{contra, either}
use Rattle.session.specs.HeldTicks.{ticks, end}
use Rattle.session.specs.Sending.{is_large, parts_needed}
use Rattle.session.specs.PrinterState.{Naming, one-accepted, waiting_for, storing, notes, Held, held-weaken, Agree, fresh, finished, waiting, finished-old, finished-new, waiting-old, agree-form}
use Rattle.session.specs.LogbookSteps.{note-older, note-newer, note-full}
use Rattle.session.specs.PrinterSteps.{Same, taken, refused-same, finishing, finishes}
use Rattle.session.specs.ReceiverSteps.{Gives, Refuses}

-- nothing is held
pub held-nothing : (sizes : List ℤ) (instead : ℤ → Bool) (es : List Accepted) (At : ℤ → Table → Type 0) (n t : ℕ) → Held sizes instead es At n t []
held-nothing sizes instead es At n t = record { falls = end; accepted = none; few = omega arith; room = omega (arith, room-none) }

module _ (sizes : List ℤ) (instead : ℤ → Bool) (es : List Accepted) (At : ℤ → Table → Type 0) (n : ℕ) (up : Rising es) (nm : Naming es At) {a : Accepted} {t : ℕ} (m : Among a es) (is : a.tick ≡ pos t) where
  -- the table accepted at this tick is this one
  pub same-entry : {c : Accepted} (u : ℕ) → Among c es → c.tick ≡ pos u → t ≡ u → c ≡ a
  same-entry u k e q = one-accepted up k m (e ∙ ap pos (sym q) ∙ sym is)

  module _ (small : is_large sizes instead a ≡ false) where
    -- one part finishes the tick
    one-needed : parts_needed sizes instead a ≡ 1
    unfolding parts_needed
    one-needed = rw small

    -- with part 0 all are in
    enough : all_came (parts_needed sizes instead a) (0 ∷ []) ≡ true
    unfolding all_came
    enough = rw one-needed

    module _ (area second : List ℕ) (delta : List ℤ) (f : Receiver → Outcome Taken) (c : Option DataAndCrc) (second' : List ℕ) (read : DeltaRead) (B : Table) (short : read.room ≤ delta_area_ints)
        (old : (r : Receiver) → receiver_form r ≡ true → is_old r (pos t) ≡ true → Refuses (f r) old_delta)
        (new : (r : Receiver) → receiver_form r ≡ true → is_old r (pos t) ≡ false → Gives (f r) (finishing a t c area second'))
        (got : received_delta sizes second' c ≡ return read) (fits : sum_fits (sum_of c) a.table ≡ true) (named : Base At a.base B) (made : (apply_delta B read.delta >>= typed) ≡ return a.table) where
      -- a message that finishes its tick at once
      pub whole_same : {r : Receiver} {s : Storage} {g : Logbook} → Agree sizes instead es At n r area s g → Room (BothLong n (length delta)) (taken sizes n r s area second delta (f r)).answer → Same sizes instead es At n (taken sizes n r s area second delta (f r)) (note g (pos t) a.base 0 1)
      unfolding note part_came all_came is_old
      whole_same (fresh {o = o}) s =
          let i = agree-form sizes instead es At n (fresh {area = area} {o = o}) in
          finishes sizes instead es At n up nm m is (0 ∷ []) enough fresh_receiver [] Option.none o area second delta (f fresh_receiver) c area second' read B short (new fresh_receiver i refl) got fits named made (held-nothing sizes instead es At n t) s
      whole_same (finished {a = y} {came = came} {l = l} {k = k} {o = o} {t = u} x e w h) s =
          let g : Agree sizes instead es At n (finished_at (pos u)) area (storing l k o) (notes (pos u) came (ticks l) k) = finished x e w h in
          let i = agree-form sizes instead es At n g in
          either (ltb u t)
          (λ q.
          let z : u < t = ltb-true u t q in
          rw (note-newer t u a.base 0 1 came (ticks l) k z)
          (finishes sizes instead es At n up nm m is (0 ∷ []) enough (finished_at (pos u)) l k o area second delta (f (finished_at (pos u))) c area second' read B short (new (finished_at (pos u)) i (finished-new u t q)) got fits named made (held-weaken sizes instead es At n t z h) s))
          (λ q.
          let v = refused-same sizes instead es At n second delta (f (finished_at (pos u))) old_delta (old (finished_at (pos u)) i (finished-old u t q)) g in
          either (ltb t u)
          (λ p. rw (note-older t u a.base 0 1 came (ticks l) k (ltb-true t u p)) v)
          (λ p.
          let z : t ≡ u = omega (arith, ltb-false u t q, ltb-false t u p) in
          let j : all_came 1 came ≡ true = rw (same-entry u x e z, one-needed) at w in
          rw (note-full t u a.base 0 1 came (ticks l) k z j) v))
      whole_same (waiting {a = y} {previous = previous} {lengths = lengths} {came = came} {l = l} {k = k} {o = o} {t = u} x e big carried hold w some_in above h) s =
          let r : Receiver = waiting_for sizes previous u y lengths in
          let g : Agree sizes instead es At n r area (storing l k o) (notes (pos u) came (ticks l) k) = waiting x e big carried hold w some_in above h in
          let i = agree-form sizes instead es At n g in
          either (ltb t u)
          (λ q.
          rw (note-older t u a.base 0 1 came (ticks l) k (ltb-true t u q))
          (refused-same sizes instead es At n second delta (f r) old_delta (old r i (waiting-old sizes previous u y lengths t true q)) g))
          (λ q.
          either (eqb t u)
          (λ p. contra (rw (same-entry u x e (eqb-true t u p)) at big) small)
          (λ p.
          let z : u < t = omega (arith, ltb-false t u q, eqb-false t u p) in
          rw (note-newer t u a.base 0 1 came (ticks l) k z)
          (finishes sizes instead es At n up nm m is (0 ∷ []) enough r l k o area second delta (f r) c area second' read B short (new r i (waiting-old sizes previous u y lengths t false q)) got fits named made (held-weaken sizes instead es At n t (omega arith) h) s)))
