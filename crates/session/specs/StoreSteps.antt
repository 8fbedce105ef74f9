-- A finished tick's delta reaches the printer's store, and is noted in the logbook. Assumes nothing.
use Rattle.std.specs.Prelude.{◌≡◌, refl, Bool, true, cond, not, ◌&&◌, leb, ℤ, pos, negsuc}
use Rattle.std.proofs.Common.{sym, arith}
use Rattle.std.proofs.Math.Path.{subst}
use Rattle.std.proofs.Math.Bool.{false}
use mathlib.Core.List.{List, [], ◌∷◌}
use Rattle.std.proofs.Math.Option.{Option, some}
use Prim.Native.Nat.{ℕ, suc, ◌≤◌}
use borrow.Author.Tests.{leb-true, le-ltb}
use Rattle.std.proofs.Math.Dec.{ltb}
use Rattle.std.proofs.Math.ListN.{length, length-take}
use Rattle.definitions.specs.Refusals.{unknown_snap}
use Rattle.definitions.specs.Warnings.{Counts, Warning, WeirdNegativeDeltaTick, one, plus}
use Rattle.definitions.specs.Warnings as Warnings
use Rattle.definitions.specs.Outcome.{Outcome, ok, err, return, warn_if, after, ◌>>=◌, ◌>>◌}
use Rattle.definitions.specs.Tables.{Table}
use Rattle.definitions.specs.Deltas.{Delta}
use Rattle.definitions.specs.Applying.{apply_delta}
use Rattle.definitions.specs.Types.{typed}
use Rattle.definitions.specs.Receiver.{finished_at, same}
use Rattle.definitions.specs.Storage.{StoredSnap, drop_older, oldest_at, is_negative, warn_weird, Keeps, sum_fits, push_snap, add_table, add_on, add_delta}
use Rattle.definitions.specs.Logbook.{Answer, refused, acknowledges, Note, all_came, has_tick, held_for, holding, complete}
use Rattle.laws.specs.StoreForm.{store_room}
use Rattle.session.specs.Runs.{Accepted, answer_of}
use Rattle.session.specs.Statement.{Among, All, more, Rising, Base, empty, named}
use Rattle.session.specs.Lists.{either, all_among}
use Rattle.session.specs.Room.{Room, told, long, StoreLong, no_room, store-most}
use Rattle.session.specs.HeldTicks.{ticks, snap_at, Falls, next, falls-take, all_take, push-holding, above-newest, ticks-drop, dropped-at_least, Found, found, missing, find-base}
use Rattle.session.specs.Sending.{parts_needed}
use Rattle.session.specs.PrinterState.{Naming, AtTick, named-sounds, storing, notes, Held, held-drop, held-weaken, Agree, finished}

-- ---- answers

-- a store's answer as the logbook gives it
abbrev pub store_answer : Outcome ℤ → Answer
store_answer (ok t w) = acknowledges t
store_answer (err n w) = refused n

-- the manager's answer is the store's
pub answer-is : (w : Counts) (o : Outcome ℤ) → answer_of (after w (o >>= λ t. return (some t))) ≡ store_answer o
answer-is w (ok t v) = refl
answer-is w (err n v) = refl

-- where the manager has room, the store has
pub room-is : {P Q : Type 0} → (P → Q) → (w : Counts) (o : Outcome ℤ) → Room P (after w (o >>= λ t. return (some t))) → Room Q o
room-is f w (ok t v) (told s) = told s
room-is f w (err n v) (told s) = told s
room-is f w o (long l) = long (f l)

-- a warning, where there is cause, is no refusal
pub warned : (b : Bool) (k : Warning) → (w : Counts) × (warn_if b k ≡ ok tt w)
warned true k = (one k, refl)
warned false k = (Warnings.none, refl)

-- a base tick that counts a warning refuses nothing
weird : (b : ℤ) (o : Outcome Table) (t : Table) → o ≡ return t → (w : Counts) × ((warn_weird b >> o) ≡ ok t w)
weird b o t e =
    let (w, q) = warned (is_negative b && not (same b (negsuc 0))) WeirdNegativeDeltaTick in
    (plus w Warnings.none, rw (q, e) refl)

module _ (sizes : List ℤ) (instead : ℤ → Bool) (es : List Accepted) (At : ℤ → Table → Type 0) (n : ℕ) where
  -- what the store does with a finished tick is what the logbook notes
  pub record Stored (area : List ℕ) (t : ℕ) (k : Keeps ℤ) (x : Note) : Type 0 where
    pub answer : store_answer k.answer ≡ x.answer
    pub agree : Agree sizes instead es At n (finished_at (pos t)) area k.storage x.logbook

  module _ (up : Rising es) (nm : Naming es At) {a : Accepted} {t : ℕ} (m : Among a es) (is : a.tick ≡ pos t) (area came : List ℕ) (whole : all_came (parts_needed sizes instead a) came ≡ true) (sum : Option ℤ) (fits : sum_fits sum a.table ≡ true) where
    -- the table at its tick is the accepted one
    accepted-here : AtTick At (snap_at t a.table)
    accepted-here = subst (λ (z : ℤ). At z a.table) is (nm.covers m)

    -- the table is held
    kept : (l : List StoredSnap) (k o : Option ℤ) (w : Counts) → Held sizes instead es At n t l → Room (StoreLong n) (add_table n sum (pos t) (storing l k o) (ok a.table w)).answer → Stored area t (add_table n sum (pos t) (storing l k o) (ok a.table w)) (record { answer = acknowledges (pos t); logbook = notes (pos t) came (holding (pos t) (ticks l)) (some (pos t)) })
    unfolding add_table
    kept l k o w h s =
        let f : Falls (suc t) (snap_at t a.table ∷ l) = next {k = suc t} {n = t} (omega arith) h.falls in
        let i : All (AtTick At) (push_snap (pos t) a.table l) = all_take 100 (snap_at t a.table ∷ l) (more accepted-here h.accepted) in
        let few : length (push_snap (pos t) a.table l) ≤ 100 = simp length-take (omega arith) in
        let most : StoreLong n → store_room (push_snap (pos t) a.table l) ≤ n = λ z. omega (arith, store-most (named-sounds nm i) few) in
        rw (fits, ← (push-holding f h.few))
        (either (leb (store_room (push_snap (pos t) a.table l)) n)
        (λ e. rw e
        (record {
          answer = refl;
          agree =
              finished m is whole
              (record {
                falls = falls-take 100 f;
                accepted = i;
                few = few;
                room = leb-true (store_room (push_snap (pos t) a.table l)) n e;
              });
        }))
        (λ e. absurd (no_room _ n most e (rw (fits, e) at s))))

    -- the table that is held at a tick is the one accepted there
    held-is : {u : Table} {l : List StoredSnap} {k : ℕ} (j : ℕ) (y : StoredSnap) → At (pos j) u → Held sizes instead es At n k l → Among y l → y.tick ≡ pos j → y.snap ≡ u
    held-is j y at h my q = nm.one (subst (λ (z : ℤ). At z y.snap) q (all_among h.accepted my)) at

    -- a delta on what is held at a tick
    abbrev Look : ℕ → Delta → List StoredSnap → Option ℤ → Option ℤ → Type 0
    Look j x l k o =
        Room (StoreLong n) (add_on n sum (pos j) (pos t) x (storing l k o) (oldest_at (pos j) l)).answer → Stored area t (add_on n sum (pos j) (pos t) x (storing l k o) (oldest_at (pos j) l))
        (cond (has_tick (pos j) (ticks l))
        (record { answer = acknowledges (pos t); logbook = notes (pos t) came (holding (pos t) (ticks l)) (some (pos t)) })
        (record { answer = refused unknown_snap; logbook = notes (pos t) came (ticks l) Option.none }))

    -- whether its base is held or not
    look : {B : Table} (j : ℕ) (x : Delta) (l : List StoredSnap) (k o : Option ℤ) → At (pos j) B → (apply_delta B x >>= typed) ≡ return a.table → Held sizes instead es At n t l → Found j l → Look j x l k o
    unfolding add_on
    look j x l k o at made h (missing p q) s =
        rw (p, q) (record { answer = refl; agree = finished m is whole (held-weaken sizes instead es At n (suc t) (omega arith) h) })
    look {B} j x l k o at made h (found y my ey p q) s =
        let d : y.snap ≡ B = held-is j y at h my ey in
        let (w, u) = weird (pos j) (apply_delta B x >>= typed) a.table made in
        rw (p, q, d, u) (kept l k o w h (rw (p, d, u) at s))

    -- a delta on the table at a tick
    based : {B : Table} (j : ℕ) (x : Delta) (l : List StoredSnap) (k o : Option ℤ) → At (pos j) B → (apply_delta B x >>= typed) ≡ return a.table → Held sizes instead es At n t l → Room (StoreLong n) (add_delta n sum (pos j) (pos t) x (storing l k o)).answer → Stored area t (add_delta n sum (pos j) (pos t) x (storing l k o)) (complete (pos t) (pos j) came (held_for (pos j) (ticks l)))
    unfolding add_delta complete
    based j x l k o at made h s =
        let z : ltb j 0 ≡ false = le-ltb j 0 (omega arith) in
        let g = held-drop sizes instead es At n j h in
        rw (above-newest h.falls, z, ← (ticks-drop j h.falls))
        (look j x (drop_older (pos j) l) k o at made g (find-base j g.falls (dropped-at_least j l)) (rw (above-newest h.falls, z) at s))

    -- a delta on its base reaches the store
    pub reaches : (b : ℤ) (B : Table) (x : Delta) (l : List StoredSnap) (k o : Option ℤ) → Base At b B → (apply_delta B x >>= typed) ≡ return a.table → Held sizes instead es At n t l → Room (StoreLong n) (add_delta n sum b (pos t) x (storing l k o)).answer → Stored area t (add_delta n sum b (pos t) x (storing l k o)) (complete (pos t) b came (held_for b (ticks l)))
    unfolding add_delta add_on complete
    reaches b B x l k o empty made h s =
        let (w, e) = weird (negsuc 0) (apply_delta [] x >>= typed) a.table made in
        rw (above-newest h.falls, e) (kept l k o w h (rw (above-newest h.falls, e) at s))
    reaches b B x l k o (named at) made h s =
        let (j, q, i) = nm.number at in
        subst (λ (z : ℤ). Room (StoreLong n) (add_delta n sum z (pos t) x (storing l k o)).answer → Stored area t (add_delta n sum z (pos t) x (storing l k o)) (complete (pos t) z came (held_for z (ticks l)))) (sym q)
        (based j x l k o (subst (λ (z : ℤ). At z B) q at) made h) s
