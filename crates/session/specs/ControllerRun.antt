-- A controller over a list of calls: what it holds, how it answers, and what its deltas were made against. Assumes nothing.
use Rattle.std.specs.Prelude.{◌≡◌, refl, true, false, List, [], ◌∷◌, ◌++◌, ℕ, ◌≤◌, ltb, ℤ, pos, negsuc, length}
use Rattle.std.proofs.Common.{sym, ◌∙◌, ap, subst, arith, ltb-true, lt-ltb}
use Rattle.std.proofs.Math.Option.{Option, some}
use Rattle.definitions.specs.Ints.{signed_less}
use Rattle.definitions.specs.Outcome.{Outcome, ok, err}
use Rattle.definitions.specs.Tables.{Table, table_of}
use Rattle.definitions.specs.Receiver.{same}
use Rattle.definitions.specs.Storage.{StoredSnap, Storage, fresh_storage, drop_older, oldest_at, is_negative, base_for, drop_for, is_held, with_snaps, with_delta_tick, adding, Keeps}
use Rattle.definitions.specs.Storage as Storage
use Rattle.definitions.specs.StorageCalls.{Added}
use Rattle.laws.specs.TableReadBack.{holds}
use Rattle.laws.specs.StoreForm.{nothing, fresh-found}
use Rattle.laws.specs.StoreRoom.{sounds-older, length-older}
use Rattle.laws.specs.AddingLaws.{adding-is}
use Rattle.session.specs.Runs.{ControllerCall, add_snap, set_delta_tick, Controller, ControllerStep, controller_call, fresh_controller, after_calls, Accepted, accepted_by, accepted_from}
use Rattle.session.specs.ControllerList.{Told, told_by, told_from, last_base, not_older, tables_left, storage_told}
use Rattle.session.specs.Statement.{Rising}
use Rattle.session.specs.Statement as Statement
use Rattle.session.specs.Lists.{contra, either}
use Rattle.session.specs.HeldTicks.{snap_at, Falls, end, next, falls-drop, all_drop}
use Rattle.session.specs.Dropping.{Oldest, oldest-found}
use Rattle.session.specs.ControllerSteps.{drops, base-left, call-adds, call-unformed, Sets, unsets, sets, setting-is, set_step, call-sets}
use Rattle.session.specs.ControllerSteps as ControllerSteps
use Rattle.session.specs.ControllerState.{Based, unset, set, none, Keeping, Controls, laid_out, told-refused, told-adding, adds-controls}

-- ---- the base tick is set

-- what is held where tables older than a number are dropped and a base tick is set
keeping-dropped : (b : ℕ) (s : Storage) (l : List Accepted) (o : Option ℤ) → Keeping s l → Based o (drop_older (pos b) s.snaps)
    → Keeping (with_delta_tick (with_snaps s (drop_older (pos b) s.snaps)) o) l
keeping-dropped b s l o k h =
    record {
      top = k.top;
      falls = falls-drop b k.falls;
      based = h;
      accepted = all_drop (pos b) s.snaps k.accepted;
      sounds = sounds-older (pos b) s.snaps k.sounds;
      few = omega (arith, length-older (pos b) s.snaps, k.few);
      chain = k.chain;
      sound-all = k.sound-all;
    }

-- a tick that is not negative is a number
pub not_negative : (t : ℤ) → signed_less t (pos 0) ≡ false → (n : ℕ) × (t ≡ pos n)
not_negative (pos n) e = (n, refl)
not_negative (negsuc n) e = contra refl e

-- what is held where a tick is named that is not negative
keeping-for : (tick : ℤ) (s : Storage) (l : List Accepted) (o : Option ℤ) → Keeping s l → signed_less tick (pos 0) ≡ false
    → Based o (drop_older tick s.snaps) → Keeping (with_delta_tick (with_snaps s (drop_for tick s.snaps)) o) l
keeping-for tick s l o k e h =
    let n = not_negative tick e in
    let d : drop_for tick s.snaps ≡ drop_older (pos n.0) s.snaps = drops tick s.snaps e ∙ ap (λ (z : ℤ). drop_older z s.snaps) n.1 in
    subst (λ (y : List StoredSnap). Keeping (with_delta_tick (with_snaps s y) o) l) (sym d)
    (keeping-dropped n.0 s l o k (subst (λ (z : ℤ). Based o (drop_older z s.snaps)) n.1 h))

-- a table that is then the oldest is the base
based-set : (n : ℕ) (l : List StoredSnap) → Oldest n l → Based (some (pos n)) l
based-set n l o = subst (Based (some (pos n))) (sym o.all_are) (set o.tick_is)

-- a base tick that was found is that of the oldest table left
pub set-based : (tick : ℤ) (s : Storage) (l : List Accepted) → Keeping s l → signed_less tick (pos 0) ≡ false → is_held (base_for tick s.snaps) ≡ true
    → Based (some tick) (drop_older tick s.snaps)
set-based tick s l k e h =
    let n = not_negative tick e in
    let left : is_held (oldest_at tick (drop_older tick s.snaps)) ≡ true = ap is_held (sym (base-left tick s.snaps e)) ∙ h in
    let q : is_held (oldest_at (pos n.0) (drop_older (pos n.0) s.snaps)) ≡ true =
    subst (λ (z : ℤ). is_held (oldest_at z (drop_older z s.snaps)) ≡ true) n.1 left in
    subst (λ (z : ℤ). Based (some z) (drop_older z s.snaps)) (sym n.1)
    (based-set n.0 _ (oldest-found n.0 (drop_older (pos n.0) s.snaps) (falls-drop n.0 k.falls) q))

-- of tables below a tick none is left
none_left : (b : ℕ) {j : ℕ} {l : List StoredSnap} → Falls j l → j ≤ b → not_older (pos b) l ≡ []
unfolding not_older
none_left b end h = refl
none_left b (next {n = n} p f) h = rw (lt-ltb n b (omega arith)) (none_left b f (omega arith))

-- dropping from the newest side drops all that is older, where ticks fall
drop-not_older : (b : ℕ) {j : ℕ} {l : List StoredSnap} → Falls j l → drop_older (pos b) l ≡ not_older (pos b) l
unfolding drop_older not_older
drop-not_older b end = refl
drop-not_older b (next {n = n} {t = t} p f) =
    either (ltb n b)
    (λ e. rw e (sym (none_left b f (omega (arith, ltb-true n b e)))))
    (λ e. rw e (ap (λ (z : List StoredSnap). snap_at n t ∷ z) (drop-not_older b f)))

module _ (c : Controller) (tick : ℤ) (s : Storage) (k : List Told) {j : ℕ} (f : Falls j s.snaps) (q : s ≡ storage_told k) where
  -- tables older than a tick that is not negative are dropped
  dropped : signed_less tick (pos 0) ≡ false → drop_older tick s.snaps ≡ not_older tick (tables_left k)
  dropped e =
      let n = not_negative tick e in
      subst (λ (z : ℤ). drop_older z s.snaps ≡ not_older z s.snaps) (sym n.1) (drop-not_older n.0 f)
      ∙ ap (λ (z : Storage). not_older tick z.snaps) q

  -- what is left then, whatever base is set
  left-with : (o : Option ℤ) → signed_less tick (pos 0) ≡ false
      → with_delta_tick (with_snaps s (drop_older tick s.snaps)) o ≡ record { snaps = not_older tick (tables_left k); ack_tick = Option.none; delta_tick = o }
  left-with o e = rw (dropped e, ap (λ (z : Storage). z.ack_tick) q) refl

  -- setting a base tick leaves what follows from the calls
  told-setting : (Storage.set_delta_tick tick s).storage ≡ storage_told (told_by (set_delta_tick tick) (set_step c (Storage.set_delta_tick tick s)) k)
  unfolding Storage.set_delta_tick tables_left last_base
  told-setting =
      either (is_negative tick)
      (λ e. either (same tick (negsuc 0)) (λ z. rw (e, z, e, q) refl) (λ z. rw (e, z, e, q) refl))
      (λ e.
      either (is_held (oldest_at tick (drop_older tick s.snaps)))
      (λ h. rw (e, h, e) (left-with (some tick) e))
      (λ h. rw (e, h) (left-with Option.none e)))

-- what setting a base tick leaves
sets-controls : (c : Controller) (tick : ℤ) (s : Storage) (l : List Accepted) (k : List Told) → Keeping s l → (o : Keeps (Unit {0}))
    → o.storage ≡ storage_told (told_by (set_delta_tick tick) (set_step c o) k) → Sets tick s o
    → Controls (set_step c o).next l (told_by (set_delta_tick tick) (set_step c o) k)
sets-controls c tick s l k h o q (unsets e u) =
    laid_out (length c.area) c.delta (with_delta_tick s Option.none) l _ refl
    (record {
      top = h.top;
      falls = h.falls;
      based = unset;
      accepted = h.accepted;
      sounds = h.sounds;
      few = h.few;
      chain = h.chain;
      sound-all = h.sound-all;
    })
    q
sets-controls c tick s l k h o q (sets e i) =
    laid_out (length c.area) c.delta _ l _ refl (keeping-for tick s l (some tick) h e (set-based tick s l h e i)) q
sets-controls c tick s l k h o q (ControllerSteps.lacks e i) =
    laid_out (length c.area) c.delta _ l _ refl (keeping-for tick s l Option.none h e unset) q

-- ---- a call, and a list of calls

-- what a step leaves is in order, where the tables accepted then rise
abbrev Leaves : ControllerCall → List Accepted → List Told → ControllerStep → Type 0
Leaves x l k y = Rising (accepted_by x y y.answer l) → Controls y.next (accepted_by x y y.answer l) (told_by x y k)

-- what adding the table of an area leaves, if it holds one
area-controls : (c : Controller) (tick : ℤ) (table : List ℤ) (l : List Accepted) (k : List Told) → Controls c l k → (o : Option Table) → table_of table ≡ o
    → Leaves (add_snap tick table) l k (controller_call c (add_snap tick table))
area-controls c tick table l k h (some t) e =
    let x : StoredSnap = record { tick = tick; snap = t } in
    let o = adding (length c.area) (length c.delta) x h.storage in
    subst (Leaves (add_snap tick table) l k) (sym (call-adds c tick table t h.storage h.held e))
    (adds-controls c tick table t h.storage l k e h.keeping o (told-adding c tick table t h.storage k o (holds table t e).1 h.told)
    (adding-is (length c.area) (length c.delta) x h.storage))
area-controls c tick table l k h Option.none e =
    subst (Leaves (add_snap tick table) l k) (sym (call-unformed c tick table h.storage h.held e))
    (λ r. record { storage = h.storage; held = h.held; keeping = h.keeping; told = told-refused h.storage k tick table h.told })

-- what a call leaves, from what was there before
call-controls : (c : Controller) (x : ControllerCall) (l : List Accepted) (k : List Told) → Controls c l k → Leaves x l k (controller_call c x)
call-controls c (add_snap tick table) l k h = area-controls c tick table l k h (table_of table) refl
call-controls c (set_delta_tick tick) l k h =
    subst (Leaves (set_delta_tick tick) l k) (sym (call-sets c tick h.storage h.held))
    (λ r. sets-controls c tick h.storage l k h.keeping (Storage.set_delta_tick tick h.storage)
    (told-setting c tick h.storage k h.keeping.falls h.told) (setting-is tick h.storage))

-- those accepted before rise where those accepted then do
rises-before : (x : ControllerCall) (y : ControllerStep) (o : Outcome (Option Added)) (l : List Accepted) → Rising (accepted_by x y o l) → Rising l
rises-before (add_snap tick table) y (ok (some a) w) l (Statement.more n q le r rs) = rs
rises-before (add_snap tick table) y (ok Option.none w) l r = r
rises-before (add_snap tick table) y (err n w) l r = r
rises-before (set_delta_tick tick) y o l r = r

-- so do those accepted before some calls
pub rises-from : (xs : List ControllerCall) (c : Controller) (l : List Accepted) → Rising (accepted_from c xs l) → Rising l
unfolding accepted_from
rises-from [] c l r = r
rises-from (x ∷ xs) c l r = rises-before x (controller_call c x) (controller_call c x).answer l (rises-from xs (controller_call c x).next _ r)

-- what a list of calls leaves
pub calls-control : (xs : List ControllerCall) (c : Controller) (l : List Accepted) (k : List Told) → Rising (accepted_from c xs l) → Controls c l k
    → Controls (after_calls c xs) (accepted_from c xs l) (told_from c xs k)
unfolding accepted_from after_calls told_from
calls-control [] c l k r h = h
calls-control (x ∷ xs) c l k r h =
    calls-control xs (controller_call c x).next _ _ r (call-controls c x l k h (rises-from xs (controller_call c x).next _ r))

-- the tables accepted in two lists of calls
pub accepted-append : (xs ys : List ControllerCall) (c : Controller) (l : List Accepted)
    → accepted_from c (xs ++ ys) l ≡ accepted_from (after_calls c xs) ys (accepted_from c xs l)
unfolding accepted_from after_calls
accepted-append [] ys c l = refl
accepted-append (x ∷ xs) ys c l = accepted-append xs ys (controller_call c x).next _

-- an empty store holds nothing, and nothing was accepted
pub fresh-controls : (n : ℕ) (delta : List ℤ) → Controls (fresh_controller n delta) [] []
unfolding tables_left last_base
fresh-controls n delta =
    record {
      storage = fresh_storage;
      held = fresh-found n;
      keeping = record {
        top = 0;
        falls = end;
        based = unset;
        accepted = Statement.none;
        sounds = nothing;
        few = omega arith;
        chain = none;
        sound-all = Statement.none;
      };
      told = refl;
    }
