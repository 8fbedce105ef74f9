-- The controller's part of demand 3: what its store holds, how its calls are answered, that each base is right, and what is sent. Assumes nothing.
use Rattle.std.specs.Prelude.{◌≡◌, true, false, List, [], ◌∷◌, ◌++◌, ℕ, ◌≤◌, ◌<◌, ℤ, pos, drop}
use Rattle.std.proofs.Math.Path.{refl, subst}
use Rattle.std.proofs.Common.{sym, ◌∙◌, ap, append-nil, arith, le-leb}
use Rattle.std.proofs.Math.Option.{Option, some}
use Rattle.std.proofs.Math.ListN.{length}
use Rattle.definitions.specs.Ints.{signed_less}
use Rattle.definitions.specs.Areas.{lay}
use Rattle.definitions.specs.Refusals.{capacity_error}
use Rattle.definitions.specs.Warnings.{Counts}
use Rattle.definitions.specs.Outcome.{Outcome, ok, err, return}
use Rattle.definitions.specs.Tables.{Table, sound, table_of}
use Rattle.definitions.specs.Deltas.{Delta, written_delta, delta_of}
use Rattle.definitions.specs.DeltaMaking.{alike, delta_from}
use Rattle.definitions.specs.Storage.{StoredSnap, Storage, storage_of, drop_older, oldest_or, oldest_at, base_for, is_held, chosen_base, AddedSnap, adding, Keeps}
use Rattle.definitions.specs.Storage as Storage
use Rattle.definitions.specs.StorageCalls.{Added, add_step}
use Rattle.laws.specs.AreaLaws.{lay-append}
use Rattle.laws.specs.TableRoundTrip.{soundly}
use Rattle.laws.specs.TableReadBack.{holds}
use Rattle.laws.specs.DeltaMade.{made-short, made_held}
use Rattle.laws.specs.StoreForm.{store_room}
use Rattle.laws.specs.StoreForm as StoreForm
use Rattle.laws.specs.AddingLaws.{base_of, has_room, Adds, full, clashes, fits, made-not, made-is, adding-is}
use Rattle.laws.specs.AddingLaws as AddingLaws
use Rattle.session.specs.Runs.{ControllerCall, add_snap, set_delta_tick, Controller, ControllerStep, controller_call, after_calls, Accepted, accepted_as, accepted_from, packed, chunks_of}
use Rattle.session.specs.ControllerList.{Told, told_from}
use Rattle.session.specs.SendingCalls.{send_calls}
use Rattle.session.specs.Statement.{Among, All, Rising, AcceptedAt, Base, Session, accepted_in, Holds, AreasSuffice, AreasLong, HeldAt, BaseIn, Answered, BaseRight, SentRight, Carried, controller_told}
use Rattle.session.specs.Statement as Statement
use Rattle.session.specs.Lists.{contra, all_among, all_map}
use Rattle.session.specs.Room.{Room, told, long, store-most}
use Rattle.session.specs.HeldTicks.{oldest-among}
use Rattle.session.specs.Dropping.{among-drop, held_found}
use Rattle.session.specs.SendingGives.{send-gives, empty-cut}
use Rattle.session.specs.AreaLengths.{ControllerLong, call_long}
use Rattle.session.specs.ControllerSteps.{base-left, added_step, call-adds, call-unformed, Sets, unsets, sets, setting-is, set_step, call-sets}
use Rattle.session.specs.ControllerSteps as ControllerSteps
use Rattle.session.specs.ControllerState.{Based, unset, set, Chain, none, more, Keeping, Controls, delta-there, base-sound, base-tick, at_more}
use Rattle.session.specs.ControllerRun.{not_negative, set-based, calls-control, accepted-append, fresh-controls, rises-from}

-- ---- answers

-- the base that is chosen is the one held at the tick that is set, or the empty table
base-in : (s : Storage) (x : StoredSnap) (o : Option ℤ) (l : List StoredSnap) → s.delta_tick ≡ o → s.snaps ≡ l → Based o l → BaseIn s (chosen_base o x l).snap
unfolding oldest_or
base-in s x (some t) [] e q m = elim m [ ]
base-in s x Option.none l e q unset = Statement.empty e
base-in s x (some t) (y ∷ l) e q (set h) =
    Statement.held {x = oldest_or y l} (e ∙ ap some (sym h)) (subst (Among (oldest_or y l)) (sym q) (oldest-among y l))

module _ (c : Controller) (tick : ℤ) (table : List ℤ) (t : Table) (s : Storage) (l : List Accepted) (e : table_of table ≡ some t) (k : Keeping s l) where
  -- the table at its tick
  abbrev x : StoredSnap
  x = record { tick = tick; snap = t }

  -- the table that it is measured against
  abbrev b : Table
  b = (base_of x s).snap

  -- both are sound
  t-sound : sound t ≡ true
  t-sound = (soundly table t e).1

  b-sound : sound b ≡ true
  b-sound = base-sound s.delta_tick x s.snaps k.based k.sounds

  -- long areas have room for the table and its delta
  long-room : ControllerLong c → length s.snaps < 100 → alike b t ≡ true → has_room (length c.area) (length c.delta) x s ≡ true
  long-room h few a =
      let i : store_room (x ∷ s.snaps) ≤ length c.area = let m = h.0 in omega
      (arith, store-most (StoreForm.more {x = x} t-sound k.sounds) few) in
      let j : length (written_delta (delta_from b t)) ≤ length c.delta = let m = h.1 in omega (arith, made-short b t b-sound t-sound a) in
      rw (le-leb (store_room (x ∷ s.snaps)) (length c.area) i, le-leb (length (written_delta (delta_from b t))) (length c.delta) j) refl

  -- so no table is refused for want of room
  not-lacking : {w : Counts} → length s.snaps < 100 → alike b t ≡ true → has_room (length c.area) (length c.delta) x s ≡ false
      → Room {A = Option Added} (ControllerLong c) (err capacity_error w) → ⊥
  not-lacking few a q (told r) = r.0 refl
  not-lacking few a q (long h) = contra (long-room h few a) q

  -- how adding a table is answered
  adds-answered : (o : Outcome AddedSnap) → Adds (length c.area) (length c.delta) x s o → Room (ControllerLong c) (added_step c x s o).answer
      → Answered s (add_snap tick table) (added_step c x s o).answer
  unfolding add_step
  adds-answered o (full n) r = Statement.full e n
  adds-answered o (clashes n a) r = Statement.clash e n (base-in s x s.delta_tick s.snaps refl refl k.based) (made-not b t a)
  adds-answered o (AddingLaws.lacks n a q) r = absurd (not-lacking n a q r)
  adds-answered o (fits n a h) r =
      subst (λ (z : ℤ). Answered s (add_snap tick table) (return (some (record { base = z; ints = length (written_delta (delta_from b t)) }))))
      (sym (base-tick s.delta_tick x s.snaps k.based))
      (Statement.adds e n (base-in s x s.delta_tick s.snaps refl refl k.based) (made-is b t a))

-- a base tick that is set is held
held_at : (t : ℤ) (l : List StoredSnap) → Based (some t) l → HeldAt t l
held_at t [] m = elim m [ ]
held_at t (x ∷ l) (set h) = record { snap = oldest_or x l; among = oldest-among x l; tick_is = h }

-- a tick that is held is found
found_at : (tick : ℤ) (s : Storage) (l : List Accepted) → Keeping s l → signed_less tick (pos 0) ≡ false → HeldAt tick s.snaps
    → is_held (base_for tick s.snaps) ≡ true
found_at tick s l k e h =
    let n = not_negative tick e in
    ap is_held (base-left tick s.snaps e ∙ ap (λ (z : ℤ). oldest_at z (drop_older z s.snaps)) n.1)
    ∙ held_found n.0 s.snaps k.falls (subst (λ (z : ℤ). HeldAt z s.snaps) n.1 h)

-- how setting a base tick is answered
sets-answered : (c : Controller) (tick : ℤ) (s : Storage) (l : List Accepted) → Keeping s l → (o : Keeps (Unit {0})) → Sets tick s o
    → Answered s (set_delta_tick tick) (set_step c o).answer
sets-answered c tick s l k o (unsets e (Statement.minus_one u)) = Statement.unset e (Statement.minus_one u)
sets-answered c tick s l k o (unsets e (Statement.other u)) = Statement.unset e (Statement.other u)
sets-answered c tick s l k o (sets e h) =
    let a = held_at tick (drop_older tick s.snaps) (set-based tick s l k e h) in
    Statement.sets e (record { snap = a.snap; among = among-drop tick s.snaps a.among; tick_is = a.tick_is })
sets-answered c tick s l k o (ControllerSteps.lacks e h) = Statement.unknown e (λ a. contra (found_at tick s l k e a) h)

-- an area is added, if it holds a table
area-answered : (c : Controller) (tick : ℤ) (table : List ℤ) (l : List Accepted) (k : List Told) (h : Controls c l k) (o : Option Table) → table_of table ≡ o
    → Room (ControllerLong c) (controller_call c (add_snap tick table)).answer
    → Answered h.storage (add_snap tick table) (controller_call c (add_snap tick table)).answer
area-answered c tick table l k h (some t) e =
    let x : StoredSnap = record { tick = tick; snap = t } in
    let o = adding (length c.area) (length c.delta) x h.storage in
    subst (λ (y : ControllerStep). Room (ControllerLong c) y.answer → Answered h.storage (add_snap tick table) y.answer)
    (sym (call-adds c tick table t h.storage h.held e))
    (adds-answered c tick table t h.storage l e h.keeping o (adding-is (length c.area) (length c.delta) x h.storage))
area-answered c tick table l k h Option.none e = λ r. rw (call-unformed c tick table h.storage h.held e) (Statement.unformed e)

-- a call is answered from what is held
call-answered : (c : Controller) (x : ControllerCall) (l : List Accepted) (k : List Told) (h : Controls c l k)
    → Room (ControllerLong c) (controller_call c x).answer → Answered h.storage x (controller_call c x).answer
call-answered c (add_snap tick table) l k h = area-answered c tick table l k h (table_of table) refl
call-answered c (set_delta_tick tick) l k h = λ r.
    rw (call-sets c tick h.storage h.held) (sets-answered c tick h.storage l h.keeping (Storage.set_delta_tick tick h.storage)
    (setting-is tick h.storage))

-- ---- what is sent

-- what the calls that send give for a table that a step added
abbrev Sends : List ℤ → ℤ → List ℤ → ControllerStep → Type 0
Sends sizes tick table y =
    (a : Added) (w : Counts) → y.answer ≡ ok (some a) w → SentRight sizes tick table a y.next.delta

-- a refusal is no answer
not-refused : {A : Type 0} {n : ℕ} {v w : Counts} {a : A} → err n v ≡ ok a w → ⊥
not-refused e = let z : ◌≡◌ {A = ℕ} 0 1 = cc in omega arith

-- an area that begins with the delta between two sound tables holds it
delta-in : (b t : Table) (area : List ℤ) → sound b ≡ true → sound t ≡ true → alike b t ≡ true → length (written_delta (delta_from b t)) ≤ length area
    → delta_of (lay (written_delta (delta_from b t)) area) ≡ some (delta_from b t)
delta-in b t area sb st e h =
    let w = written_delta (delta_from b t) in
    ap delta_of (lay-append w area h) ∙ made_held b t sb st (drop (length w) area) e

-- the messages of a table and a delta that areas hold
chunks-sent : (sizes table delta : List ℤ) (a : Accepted) (t : Table) (d : Delta) → table_of table ≡ some t → delta_of delta ≡ some d → a.table ≡ t
    → a.delta ≡ d → (out : List ℕ) → Carried sizes a → length (packed sizes a) ≤ length out
    → send_calls sizes a.tick a.base table delta out ≡ return (chunks_of sizes a)
chunks-sent sizes table delta a t d e q t-is d-is out c h =
    rw (d-is, t-is)
    (send-gives sizes a.tick a.base table delta out t d e q (rw d-is at c.matches) (rw d-is at h) (let s = rw d-is at c.short in omega arith))

-- so they are sent
sends-held : (sizes : List ℤ) (tick : ℤ) (table delta : List ℤ) (a : Added) (t : Table) (d : Delta) → table_of table ≡ some t → delta_of delta ≡ some d
    → SentRight sizes tick table a delta
sends-held sizes tick table delta a t d e q =
    record {
      chunks = chunks-sent sizes table delta (accepted_as tick table a delta) t d e q (holds table t e).1 (delta-there delta d q);
      empty = λ crc. empty-cut tick a.base crc;
    }

-- what is sent for a table of an area
adds-sent : (sizes : List ℤ) (c : Controller) (tick : ℤ) (table : List ℤ) (t : Table) (s : Storage) (l : List Accepted) → table_of table ≡ some t
    → Keeping s l → (o : Outcome AddedSnap) → let x : StoredSnap = record { tick = tick; snap = t } in Adds (length c.area) (length c.delta) x s o
    → Sends sizes tick table (added_step c x s o)
unfolding add_step
adds-sent sizes c tick table t s l e k o (full n) a w q = absurd (not-refused q)
adds-sent sizes c tick table t s l e k o (clashes n i) a w q = absurd (not-refused q)
adds-sent sizes c tick table t s l e k o (AddingLaws.lacks n i j) a w q = absurd (not-refused q)
adds-sent sizes c tick table t s l e k o (fits n i h) a w q =
    let x : StoredSnap = record { tick = tick; snap = t } in
    let b = (base_of x s).snap in
    sends-held sizes tick table _ a t (delta_from b t) e
    (delta-in b t c.delta (base-sound s.delta_tick x s.snaps k.based k.sounds) (soundly table t e).1 i h)

-- what is sent for an area, if it holds a table
area-sent : (sizes : List ℤ) (c : Controller) (tick : ℤ) (table : List ℤ) (l : List Accepted) (k : List Told) (h : Controls c l k) (o : Option Table)
    → table_of table ≡ o → Sends sizes tick table (controller_call c (add_snap tick table))
area-sent sizes c tick table l k h (some t) e =
    let x : StoredSnap = record { tick = tick; snap = t } in
    let o = adding (length c.area) (length c.delta) x h.storage in
    subst (Sends sizes tick table) (sym (call-adds c tick table t h.storage h.held e))
    (adds-sent sizes c tick table t h.storage l e h.keeping o (adding-is (length c.area) (length c.delta) x h.storage))
area-sent sizes c tick table l k h Option.none e =
    subst (Sends sizes tick table) (sym (call-unformed c tick table h.storage h.held e)) (λ a w q. absurd (not-refused q))

-- ---- bases

-- a base is still named where more was accepted
base_more : (a : Accepted) (l : List Accepted) {t : ℤ} {b : Table} → Base (AcceptedAt l) t b → Base (AcceptedAt (a ∷ l)) t b
base_more a l Statement.empty = Statement.empty
base_more a l (Statement.named k) = Statement.named (at_more a l k)

-- a right base stays right where more was accepted
right-more : (a : Accepted) (l : List Accepted) (b : Accepted) → BaseRight l b → BaseRight (a ∷ l) b
right-more a l b r = record { base = r.base; named = base_more a l r.named; older = r.older; made = r.made }

-- a base among those accepted before is older
base-older : (n : ℕ) (z : ℤ) (l : List Accepted) {t : ℤ} {b : Table} → z ≡ pos n → All (λ (y : Accepted). signed_less y.tick z ≡ true) l
    → Base (AcceptedAt l) t b → signed_less t z ≡ true
base-older n z l q r Statement.empty = rw q
base-older n z l q r (Statement.named k) = subst (λ (t : ℤ). signed_less t z ≡ true) k.tick_is (all_among r k.accepted)

-- tables that rise, each made against one accepted before, have right bases
pub bases-right : {l : List Accepted} → Rising l → Chain l → All (BaseRight l) l
bases-right Statement.none none = Statement.none
bases-right (Statement.more {a = a} {l = l} n q le r rs) (more m ch) =
    Statement.more
    (record { base = m.base; named = base_more a l m.named; older = base-older n a.tick l q r m.named; made = m.made })
    (all_map (right-more a l) (bases-right rs ch))

-- ---- a session

module _ (s : Session) (h : Holds s) where
  -- the controller after the first of its calls
  controls-after : (xs ys : List ControllerCall) → s.calls ≡ xs ++ ys
      → Controls (after_calls s.controller xs) (accepted_from s.controller xs []) (told_from s.controller xs [])
  controls-after xs ys e =
      let r : Rising (accepted_from (after_calls s.controller xs) ys (accepted_from s.controller xs [])) =
      subst Rising (ap (λ (l : List ControllerCall). accepted_from s.controller l []) e ∙ accepted-append xs ys s.controller []) h.rising in
      calls-control xs s.controller [] [] (rises-from ys (after_calls s.controller xs) _ r)
      (subst (λ (c : Controller). Controls c [] []) (sym h.controller_fresh) (fresh-controls h.area h.delta))

  -- its store holds what follows from its calls
  pub controller-holds : (xs ys : List ControllerCall) → s.calls ≡ xs ++ ys
      → storage_of (after_calls s.controller xs).store (after_calls s.controller xs).area ≡ some (controller_told s xs)
  controller-holds xs ys e = let k = controls-after xs ys e in k.held ∙ ap some k.told

  -- each call has room
  abbrev pub CallsRoom : Type 0
  CallsRoom =
      (xs ys : List ControllerCall) (x : ControllerCall) → s.calls ≡ xs ++ x ∷ ys
      → Room (ControllerLong (after_calls s.controller xs)) (controller_call (after_calls s.controller xs) x).answer

  -- the calls are answered from what its store holds
  pub controller-answered : CallsRoom → (xs ys : List ControllerCall) (x : ControllerCall) → s.calls ≡ xs ++ x ∷ ys
      → Answered (controller_told s xs) x (controller_call (after_calls s.controller xs) x).answer
  controller-answered room xs ys x e =
      let k = controls-after xs (x ∷ ys) e in
      subst (λ (g : Storage). Answered g x (controller_call (after_calls s.controller xs) x).answer) k.told
      (call-answered (after_calls s.controller xs) x _ _ k (room xs ys x e))

  -- the calls that send give the messages of an added table
  pub controller-sent : (xs ys : List ControllerCall) (tick : ℤ) (table : List ℤ) → s.calls ≡ xs ++ add_snap tick table ∷ ys
      → Sends s.sizes tick table (controller_call (after_calls s.controller xs) (add_snap tick table))
  controller-sent xs ys tick table e =
      area-sent s.sizes (after_calls s.controller xs) tick table _ _ (controls-after xs (add_snap tick table ∷ ys) e) (table_of table) refl

  -- each accepted table's delta was made against its base, the empty table or an older accepted one
  pub accepted-bases : All (BaseRight (accepted_in s)) (accepted_in s)
  accepted-bases = bases-right h.rising (controls-after s.calls [] (sym (append-nil s.calls))).keeping.chain

-- calls that are not refused for want of room have it
pub told-calls : (s : Session) (h : Holds s) → AreasSuffice s → CallsRoom s h
told-calls s h a xs ys x e = told (a.controller xs ys x e)

-- long areas stay long
long_after : (xs : List ControllerCall) (c : Controller) → ControllerLong c → ControllerLong (after_calls c xs)
unfolding after_calls
long_after [] c l = l
long_after (x ∷ xs) c l = long_after xs (controller_call c x).next (call_long c x l)

-- so calls on them have room
pub long-calls : (s : Session) (h : Holds s) → AreasLong s → CallsRoom s h
long-calls s h a xs ys x e = long (long_after xs s.controller (a.area, a.delta))
