-- The tables that a printer holds give the winners of the tables that the controller added. Assumes nothing.
use Rattle.std.specs.Prelude.{◌≡◌, refl, List, [], ◌∷◌, ◌++◌, ◌⊎◌, ℕ, zero, suc, ℤ}
use Rattle.std.proofs.Common.{sym, ◌∙◌, ap, subst, append-nil, inl, inr, arith}
use Rattle.std.proofs.Math.Option.{Option, some}
use Rattle.definitions.specs.Warnings.{Counts}
use Rattle.definitions.specs.Outcome.{Outcome, ok, err, return}
use Rattle.definitions.specs.Tables.{Table, written, items, table_of}
use Rattle.definitions.specs.Storage.{StoredSnap, Storage, storage_of, Store}
use Rattle.definitions.specs.StorageCalls.{Added, held_storage, nth_snap, tick_in, tick_call, table_call}
use Rattle.definitions.specs.Rules.{winner_call}
use Rattle.laws.specs.ListLaws.{among-nothing}
use Rattle.laws.specs.OutcomeLaws.{ok-value, ok-not-err}
use Rattle.laws.specs.TableRoundTrip.{soundly, back}
use Rattle.laws.specs.TableReadBack.{holds}
use Rattle.laws.specs.RuleCalls.{equal-winners}
use Rattle.session.specs.Runs.{ControllerCall, add_snap, set_delta_tick, Controller, controller_call, after_calls}
use Rattle.session.specs.Runs.{Accepted, accepted_by, accepted_from, PrinterCall}
use Rattle.session.specs.Statement.{Among, here, there, All, more, Session, accepted_in, Answered, printer_after, Demand3}
use Rattle.session.specs.Statement as Statement

-- a table area that a controller added at a tick, in one of its calls
pub record AddedAt (c : Controller) (calls : List ControllerCall) (t : ℤ) (table : List ℤ) : Type 0 where
  pub before : List ControllerCall
  pub after : List ControllerCall
  pub calls_are : calls ≡ before ++ add_snap t table ∷ after
  pub added : Added
  pub warnings : Counts
  pub accepted : (controller_call (after_calls c before) (add_snap t table)).answer ≡ ok (some added) warnings

-- an area gives the winners of a table area that the controller of a session added at a tick
pub record PrintsAs (s : Session) (t : ℤ) (area : List ℤ) : Type 0 where
  pub table : List ℤ
  pub added : AddedAt s.controller s.calls t table
  pub winners : (types : List ℕ) (i : ℤ) → winner_call area types i ≡ winner_call table types i

-- ---- where an accepted table comes from

-- the area of an accepted table
record Came (c : Controller) (calls : List ControllerCall) (a : Accepted) : Type 0 where
  area : List ℤ
  added : AddedAt c calls a.tick area
  table_is : a.table ≡ items area

-- one more call before the others
came-later : (c : Controller) (x : ControllerCall) (xs : List ControllerCall) (a : Accepted) → Came (controller_call c x).next xs a → Came c (x ∷ xs) a
unfolding after_calls
came-later c x xs a k =
    let g = k.added in
    record {
      area = k.area;
      added =
          record {
            before = x ∷ g.before;
            after = g.after;
            calls_are = ap (λ (l : List ControllerCall). x ∷ l) g.calls_are;
            added = g.added;
            warnings = g.warnings;
            accepted = g.accepted;
          };
      table_is = k.table_is;
    }

-- a table accepted after a call was accepted by it, or before
came-now : (c : Controller) (x : ControllerCall) (xs : List ControllerCall) (a : Accepted) (l : List Accepted) (o : Outcome (Option Added))
    → (controller_call c x).answer ≡ o → Among a (accepted_by x (controller_call c x) o l) → Came c (x ∷ xs) a ⊎ Among a l
unfolding after_calls
came-now c (add_snap tick table) xs a l (ok (some b) w) e here =
    inl
    (record {
      area = table;
      added = record { before = []; after = xs; calls_are = refl; added = b; warnings = w; accepted = e };
      table_is = refl;
    })
came-now c (add_snap tick table) xs a l (ok (some b) w) e (there m) = inr m
came-now c (add_snap tick table) xs a l (ok Option.none w) e m = inr m
came-now c (add_snap tick table) xs a l (err n w) e m = inr m
came-now c (set_delta_tick tick) xs a l o e m = inr m

-- a table accepted after some calls was accepted by one of them, or before
came : (xs : List ControllerCall) (c : Controller) (l : List Accepted) (a : Accepted) → Among a (accepted_from c xs l) → Came c xs a ⊎ Among a l
unfolding accepted_from
came [] c l a m = inr m
came (x ∷ xs) c l a m =
    go (came xs (controller_call c x).next (accepted_by x (controller_call c x) (controller_call c x).answer l) a m)
  where
    go : Came (controller_call c x).next xs a ⊎ Among a (accepted_by x (controller_call c x) (controller_call c x).answer l) → Came c (x ∷ xs) a ⊎ Among a l
    go (inl k) = inl (came-later c x xs a k)
    go (inr k) = came-now c x xs a l (controller_call c x).answer refl k

-- so one accepted in a session was added
session-came : (s : Session) (a : Accepted) → Among a (accepted_in s) → Came s.controller s.calls a
session-came s a m = go (came s.calls s.controller [] a m)
  where
    go : Came s.controller s.calls a ⊎ Among a [] → Came s.controller s.calls a
    go (inl k) = k
    go (inr k) = absurd (among-nothing k)

-- an area that was added holds a table
added-held : (g : Storage) (t : ℤ) (table : List ℤ) {o : Outcome (Option Added)} (a : Added) (w : Counts) → Answered g (add_snap t table) o → o ≡ ok (some a) w
    → table_of table ≡ some (items table)
added-held g t table a w (Statement.unformed q) e = absurd (ok-not-err (sym e))
added-held g t table a w (Statement.full q n) e = absurd (ok-not-err (sym e))
added-held g t table a w (Statement.clash q n b d) e = absurd (ok-not-err (sym e))
added-held g t table a w (Statement.adds {u = u} q n b d) e = q ∙ ap some (sym (holds table u q).1)

-- so the area of an accepted table holds it
came_held : (s : Session) → Demand3 s → (a : Accepted) (k : Came s.controller s.calls a) → table_of k.area ≡ some (items k.area)
came_held s d a k =
    let g = k.added in
    added-held _ a.tick k.area g.added g.warnings (d.controller g.before g.after (add_snap a.tick k.area) g.calls_are) g.accepted

-- an area that holds a table, and its written form, give the same winners
written-alike : (area : List ℤ) (t : Table) → table_of area ≡ some t → (types : List ℕ) (i : ℤ) → winner_call (written t) types i ≡ winner_call area types i
written-alike area t e types i =
    equal-winners (written t) area types i
    (ap table_of (sym (append-nil (written t))) ∙ (back t [] (soundly area t e).1 ∙ sym e))

-- ---- what the printer holds

-- what all tables have, the one at a place has
at_place : {P : StoredSnap → Type 0} (l : List StoredSnap) (k : ℕ) (t : ℤ) → All P l → tick_in (nth_snap l k) ≡ some t
    → (x : StoredSnap) × (nth_snap l k ≡ some x) × (x.tick ≡ t) × P x
at_place [] k t ps e = let z : ◌≡◌ {A = ℕ} 0 1 = cc in absurd (omega arith)
at_place (x ∷ l) zero t (more p ps) e = (x, refl, cc, p)
at_place (x ∷ l) (suc k) t (more p ps) e = at_place l k t ps e

-- the table at a place, by what the store holds
table_at : (s : Store) (area : List ℤ) (h : Storage) (k : ℕ) (x : StoredSnap) → storage_of s area ≡ some h → nth_snap h.snaps k ≡ some x
    → table_call s area k ≡ written x.snap
unfolding held_storage
table_at s area h k x e f = rw (e, f)

-- the tick at a place, by what the store holds
tick-at : (s : Store) (area : List ℤ) (h : Storage) (k : ℕ) (t : ℤ) → storage_of s area ≡ some h → tick_call s area k ≡ return (some t)
    → tick_in (nth_snap h.snaps k) ≡ some t
unfolding held_storage
tick-at s area h k t e f = ok-value (rw e at f)

-- each table that the printer of a session holds gives the winners of the table that the controller added at its tick
pub prints-alike : (s : Session) → Demand3 s → (xs ys : List PrinterCall) → s.received ≡ xs ++ ys → (k : ℕ) (t : ℤ)
    → tick_call (printer_after s xs).store (printer_after s xs).area k ≡ return (some t)
    → PrintsAs s t (table_call (printer_after s xs).store (printer_after s xs).area k)
prints-alike s d xs ys e k t q =
    let p = printer_after s xs in
    let h = d.printer xs ys e in
    let n = at_place h.storage.snaps k t h.tables (tick-at p.store p.area h.storage k t h.in-form q) in
    let a = n.3 in
    let c = session-came s a.table a.accepted in
    let w : table_call p.store p.area k ≡ written (items c.area) =
    table_at p.store p.area h.storage k n.0 h.in-form n.1 ∙ ap written (sym a.table_is ∙ c.table_is) in
    subst (λ (z : ℤ). PrintsAs s z (table_call p.store p.area k)) (a.tick_is ∙ n.2)
    (record {
      table = c.area;
      added = c.added;
      winners = λ types i. rw w (written-alike c.area (items c.area) (came_held s d a.table c) types i);
    })
