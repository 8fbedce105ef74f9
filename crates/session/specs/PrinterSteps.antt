-- What the manager does with what its receiver took, compared with the logbook. Assumes nothing.
use Rattle.std.specs.Prelude.{◌≡◌, refl, Bool, true, false, List, [], ℕ, ◌≤◌, leb, ℤ, pos, negsuc, length}
use Rattle.std.proofs.Common.{sym, ◌∙◌, subst, arith, SFits}
use Rattle.std.proofs.Math.Option.{Option, some}
use Rattle.std.specs.Int.{w32}
use Rattle.definitions.specs.Refusals.{capacity_error}
use Rattle.definitions.specs.Warnings.{Counts, plus}
use Rattle.definitions.specs.Outcome.{Outcome, ok, return, ◌>>=◌}
use Rattle.definitions.specs.Stream.{stream}
use Rattle.definitions.specs.Tables.{Table}
use Rattle.definitions.specs.Deltas.{Delta}
use Rattle.definitions.specs.DeltaCalls.{sizes_match}
use Rattle.definitions.specs.DeltaReading.{DeltaRead, read_delta}
use Rattle.definitions.specs.Applying.{apply_delta}
use Rattle.definitions.specs.Types.{typed}
use Rattle.definitions.specs.Receiver.{Receiver, finished_at, DataAndCrc, ReceivedDelta, Receives, Taken, leaves}
use Rattle.definitions.specs.Storage.{StoredSnap, Storage, sum_fits, add_delta}
use Rattle.definitions.specs.Manager.{Handled, empty_delta, received_delta, fitting_delta, sum_of, after_reading, after_receiving}
use Rattle.definitions.specs.Logbook.{Logbook, Note, refused, all_came, held_for, complete}
use Rattle.definitions.specs.Messages.{base_tick, distance}
use Rattle.laws.specs.IntLaws.{wrapping_sub-wrapping_sub}
use Rattle.session.specs.Runs.{Accepted, packed, answer_of}
use Rattle.session.specs.Statement.{Among, Rising, Base, empty, named}
use Rattle.session.specs.Lists.{either}
use Rattle.session.specs.HeldTicks.{ticks}
use Rattle.session.specs.Sending.{parts_needed}
use Rattle.session.specs.PrinterState.{Naming, storing, Held, Agree}
use Rattle.session.specs.Lengths.{delta_area_ints}
use Rattle.session.specs.Room.{Room, BothLong, no_room}
use Rattle.session.specs.StoreSteps.{answer-is, room-is, reaches}
use Rattle.session.specs.ReceiverSteps.{Gives, Refuses}

-- ---- what a printer needs of an accepted table

-- its delta was made against its base; its packed form, under sizes that match its data, is read and applied as that delta
pub record Ready (sizes : List ℤ) (At : ℤ → Table → Type 0) (a : Accepted) : Type 0 where
  pub base : Table
  pub named : Base At a.base base
  pub read : DeltaRead
  pub reads : sizes_match sizes a.delta.updated ≡ true → read_delta sizes (stream (packed sizes a)) ≡ return read
  pub delta-is : read.delta ≡ a.delta
  pub room : read.room ≤ delta_area_ints
  pub applies : (apply_delta base a.delta >>= typed) ≡ return a.table
  pub unchanged : (apply_delta base empty_delta >>= typed) ≡ return base

-- the table of a base tick is one
pub one-base : {es : List Accepted} {At : ℤ → Table → Type 0} {b : ℤ} {t u : Table} → Naming es At → Base At b t → Base At b u → t ≡ u
one-base {At = At} nm p q = go _ p _ q
  where
    negative : {c : ℤ} {v : Table} → At c v → c ≡ negsuc 0 → ⊥
    negative at e =
        let (k, q, h) = nm.number at in
        let z : ◌≡◌ {A = ℤ} (pos k) (negsuc 0) = sym q ∙ e in
        let y : ◌≡◌ {A = ℕ} 0 1 = cc in
        omega arith

    none_named : {c : ℤ} (v : Table) → Base At c v → c ≡ negsuc 0 → v ≡ []
    none_named v empty e = refl
    none_named v (named at) e = absurd (negative at e)

    from : {c d : ℤ} {w : Table} (v : Table) → Base At c v → At d w → c ≡ d → v ≡ w
    from v empty at e = absurd (negative at (sym e))
    from v (named to) at e = nm.one (subst (λ (z : ℤ). At z v) e to) at

    go : {c : ℤ} (v : Table) → Base At c v → (w : Table) → Base At c w → v ≡ w
    go v empty w q = sym (none_named w q refl)
    go v (named at) w q = sym (from w q at refl)

-- a distance leads back to the base
distance_back : (a : ℤ) {b : ℤ} → SFits w32 b → base_tick a (distance a b) ≡ b
distance_back a g = wrapping_sub-wrapping_sub a g

-- a distance from a table's tick leads back to its base
pub base_back : {es : List Accepted} {At : ℤ → Table → Type 0} {b : ℤ} {t : Table} (n : ℕ) → Naming es At → Base At b t → base_tick (pos n) (distance (pos n) b) ≡ b
base_back n nm empty = distance_back (pos n) {b = negsuc 0} (record { sfits = omega arith })
base_back n nm (named at) =
    let (k, q, i) = nm.number at in
    rw q (distance_back (pos n) {b = pos k} (record { sfits = omega arith }))

-- ---- the steps after the receiver

-- the delta of a table's tick that is finished
abbrev pub delta_of : Accepted → ℕ → Option DataAndCrc → ReceivedDelta
delta_of a t c = record { delta_tick = a.base; tick = pos t; data_and_crc = c }

-- the result of the message that finishes it
abbrev pub finishing : Accepted → ℕ → Option DataAndCrc → List ℕ → List ℕ → Taken
finishing a t c area second =
    record { received = some (delta_of a t c); receiver = finished_at (pos t); parts = area; joined = second }

-- what the receiver answers then
abbrev pub finished_with : Accepted → ℕ → Option DataAndCrc → List ℕ → List ℕ → Counts → Receives
finished_with a t c area second w =
    record { answer = ok (some (delta_of a t c)) w; receiver = finished_at (pos t); parts = area; joined = second }

-- what the manager does with what its receiver took; n is the length of the store's area
abbrev pub taken : List ℤ → ℕ → Receiver → Storage → List ℕ → List ℕ → List ℤ → Outcome Taken → Handled
taken sizes n r s area second delta o =
    after_receiving sizes n (leaves r area second o) s delta (leaves r area second o).answer

-- a delta that was read fits the delta area, or is refused for want of room
pub data Fits (x : Outcome Delta) (r : DeltaRead) (n : ℕ) : Type 0 where
  fits : Gives x r.delta → Fits x r n
  lacks : leb r.room n ≡ false → Refuses x capacity_error → Fits x r n

fitting : (sizes : List ℤ) (bytes : List ℕ) (n : ℕ) (c : Option DataAndCrc) (r : DeltaRead) → received_delta sizes bytes c ≡ return r → Fits (fitting_delta sizes bytes n c) r n
unfolding fitting_delta
fitting sizes bytes n c r e =
    either (leb r.room n)
    (λ q. fits (rw (e, q) (record { counts = _; gives = refl })))
    (λ q. lacks q (rw (e, q) (record { counts = _; refuses = refl })))

module _ (sizes : List ℤ) (instead : ℤ → Bool) (es : List Accepted) (At : ℤ → Table → Type 0) (n : ℕ) where
  -- a message's outcome is the logbook's, and printer and logbook agree afterwards
  pub record Same (h : Handled) (k : Note) : Type 0 where
    pub answer : answer_of h.answer ≡ k.answer
    pub agree : Agree sizes instead es At n h.manager.receiver h.parts h.manager.storage k.logbook

  -- a refused message changes nothing
  pub refused-same : {r : Receiver} {s : Storage} {area : List ℕ} {g : Logbook} (second : List ℕ) (delta : List ℤ) (o : Outcome Taken) (e : ℕ) → Refuses o e → Agree sizes instead es At n r area s g → Same (taken sizes n r s area second delta o) (record { answer = refused e; logbook = g })
  unfolding leaves after_receiving
  refused-same second delta o e f i = rw f.refuses (record { answer = refl; agree = i })

  module _ (up : Rising es) (nm : Naming es At) {a : Accepted} {t : ℕ} (m : Among a es) (is : a.tick ≡ pos t) (came : List ℕ) (whole : all_came (parts_needed sizes instead a) came ≡ true) where
    -- the delta was read, and fits, or not
    stores : (l : List StoredSnap) (k o : Option ℤ) (area second : List ℕ) (delta : List ℤ) (w : Counts) (c : Option DataAndCrc) (r : DeltaRead) (B : Table) (x : Outcome Delta) → r.room ≤ delta_area_ints → Fits x r (length delta) → sum_fits (sum_of c) a.table ≡ true → Base At a.base B → (apply_delta B r.delta >>= typed) ≡ return a.table → Held sizes instead es At n t l → Room (BothLong n (length delta)) (after_reading n w (finished_with a t c area second w) (delta_of a t c) (storing l k o) delta x).answer → Same (after_reading n w (finished_with a t c area second w) (delta_of a t c) (storing l k o) delta x) (complete (pos t) a.base came (held_for a.base (ticks l)))
    unfolding after_reading
    stores l k o area second delta w c r B x short (fits y) sum base made h s =
        let q = (add_delta n (sum_of c) a.base (pos t) r.delta (storing l k o)).answer in
        let z = reaches sizes instead es At n up nm m is area came whole (sum_of c) sum a.base B r.delta l k o base made h (room-is (λ z. z.0) (plus w y.counts) q (rw y.gives at s)) in
        rw y.gives (record { answer = answer-is (plus w y.counts) q ∙ z.answer; agree = z.agree })
    stores l k o area second delta w c r B x short (lacks e y) sum base made h s =
        absurd (no_room r.room (length delta) (λ z. let m = z.1 in omega arith) e (rw y.refuses at s))

    -- a finished tick reaches the store
    pub finishes : (r : Receiver) (l : List StoredSnap) (k o : Option ℤ) (area second : List ℕ) (delta : List ℤ) (x : Outcome Taken) (c : Option DataAndCrc) (area' second' : List ℕ) (read : DeltaRead) (B : Table) → read.room ≤ delta_area_ints → Gives x (finishing a t c area' second') → received_delta sizes second' c ≡ return read → sum_fits (sum_of c) a.table ≡ true → Base At a.base B → (apply_delta B read.delta >>= typed) ≡ return a.table → Held sizes instead es At n t l → Room (BothLong n (length delta)) (taken sizes n r (storing l k o) area second delta x).answer → Same (taken sizes n r (storing l k o) area second delta x) (complete (pos t) a.base came (held_for a.base (ticks l)))
    unfolding leaves after_receiving
    finishes r l k o area second delta x c area' second' read B short g got sum base made h s =
        rw g.gives
        (stores l k o area' second' delta g.counts c read B (fitting_delta sizes second' (length delta) c) short (fitting sizes second' (length delta) c read got) sum base made h (rw g.gives at s))
