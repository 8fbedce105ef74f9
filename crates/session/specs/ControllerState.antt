-- What a controller's store holds at every moment, and how the tables accepted so far were made. Assumes nothing.
use Rattle.std.specs.Prelude.{◌≡◌, refl, true, false, List, [], ◌∷◌, ◌++◌, ℕ, suc, ◌≤◌, ◌<◌, ℤ, pos, length, drop}
use Rattle.std.proofs.Common.{sym, ◌∙◌, ap, subst, arith, ltb-true}
use Rattle.std.proofs.Math.Option.{Option, some}
use Rattle.definitions.specs.Ints.{signed_less}
use Rattle.definitions.specs.Areas.{lay}
use Rattle.definitions.specs.Outcome.{Outcome, ok, err, return}
use Rattle.definitions.specs.Tables.{Table, body, offsets, written, rising, sound, items, table_of}
use Rattle.definitions.specs.Deltas.{Delta, written_delta, delta_form, delta_in, delta_of}
use Rattle.definitions.specs.DeltaMaking.{alike, delta_from, create_delta}
use Rattle.definitions.specs.Storage.{StoredSnap, Storage, beside, storage_of, oldest_or, with_snaps, chosen_base, AddedSnap, added_to}
use Rattle.definitions.specs.StorageCalls.{add_step}
use Rattle.laws.specs.AreaLaws.{lay-append}
use Rattle.laws.specs.TableRoundTrip.{soundly}
use Rattle.laws.specs.TableReadBack.{holds}
use Rattle.laws.specs.DeltaMade.{made_held}
use Rattle.laws.specs.StoreForm.{Sounds, LaidIn, storage-found}
use Rattle.laws.specs.StoreForm as StoreForm
use Rattle.laws.specs.AddingLaws.{base_of, Adds, full, clashes, lacks, fits, made-is}
use Rattle.session.specs.Runs.{Controller, Accepted, accepted_by}
use Rattle.session.specs.Runs as Runs
use Rattle.session.specs.ControllerList.{Told, told_by, last_base, tables_left, storage_told}
use Rattle.session.specs.Statement.{All, Rising, AcceptedAt, Base, or_none}
use Rattle.session.specs.Statement as Statement
use Rattle.session.specs.Lists.{either, all_among, all_map}
use Rattle.session.specs.HeldTicks.{Falls, end, next, oldest-among}
use Rattle.session.specs.Dropping.{falls-next}
use Rattle.session.specs.ControllerSteps.{added_step}

-- ---- what is kept

-- the base tick that is set is that of the oldest table held
pub data Based : Option ℤ → List StoredSnap → Type 0 where
  unset : {l : List StoredSnap} → Based Option.none l
  set : {t : ℤ} {x : StoredSnap} {l : List StoredSnap} → (oldest_or x l).tick ≡ t → Based (some t) (x ∷ l)

-- a table's delta was made against a base among some accepted ones
pub record MadeFrom (l : List Accepted) (a : Accepted) : Type 0 where
  pub base : Table
  pub named : Base (AcceptedAt l) a.base base
  pub made : create_delta base a.table ≡ return a.delta

-- each was made against one that was accepted before
pub data Chain : List Accepted → Type 0 where
  none : Chain []
  more : {a : Accepted} {l : List Accepted} → MadeFrom l a → Chain l → Chain (a ∷ l)

-- a table that is held is, item for item, the one accepted at its tick
abbrev pub IsAccepted : List Accepted → StoredSnap → Type 0
IsAccepted l x = AcceptedAt l x.tick x.snap

-- what a store holds that took the tables accepted so far
pub record Keeping (s : Storage) (l : List Accepted) : Type 0 where
  pub top : ℕ
  pub falls : Falls top s.snaps
  pub based : Based s.delta_tick s.snaps
  pub accepted : All (IsAccepted l) s.snaps
  pub sounds : Sounds s.snaps
  pub few : length s.snaps ≤ 100
  pub chain : Chain l
  pub sound-all : All (λ (a : Accepted). sound a.table ≡ true) l

-- a controller's store and area hold that, and what follows from the calls k
pub record Controls (c : Controller) (l : List Accepted) (k : List Told) : Type 0 where
  pub storage : Storage
  pub held : storage_of c.store c.area ≡ some storage
  pub keeping : Keeping storage l
  pub told : storage ≡ storage_told k

-- a store that was laid out is held
pub laid_out : {area : List ℤ} (n : ℕ) (delta : List ℤ) (s : Storage) (l : List Accepted) (k : List Told) → LaidIn n s.snaps area → Keeping s l
    → s ≡ storage_told k → Controls (record { store = beside s; area = area; delta = delta }) l k
laid_out n delta s l k laid keeps told =
    record { storage = s; held = rw laid (storage-found n s keeps.sounds keeps.few); keeping = keeps; told = told }

-- ---- the delta that was made

-- the delta that an area is known to hold
pub delta-there : (a : List ℤ) (d : Delta) → delta_of a ≡ some d → delta_in [] a ≡ d
unfolding delta_of
delta-there a d e =
    either (delta_form [] a)
    (λ q. let r : some (delta_in [] a) ≡ some d = sym (rw q refl) ∙ e in let z : delta_in [] a ≡ d = cc in z)
    (λ q. let r : Option.none ≡ some d = sym (rw q refl) ∙ e in let z : ◌≡◌ {A = ℕ} 0 1 = cc in absurd (omega arith))

-- the delta between two sound tables is found in the area that it was laid into
pub delta-laid : (b t : Table) (area : List ℤ) → sound b ≡ true → sound t ≡ true → alike b t ≡ true → length (written_delta (delta_from b t)) ≤ length area
    → delta_in [] (lay (written_delta (delta_from b t)) area) ≡ delta_from b t
delta-laid b t area sb st e h =
    let w = written_delta (delta_from b t) in
    ap (delta_in []) (lay-append w area h)
    ∙ delta-there (w ++ drop (length w) area) (delta_from b t) (made_held b t sb st (drop (length w) area) e)

-- ---- the base that is chosen

-- the oldest of sound tables is sound
pub sounds-oldest : (x : StoredSnap) (l : List StoredSnap) → Sounds (x ∷ l) → sound (oldest_or x l).snap ≡ true
unfolding oldest_or
sounds-oldest x [] (StoreForm.more e h) = e
sounds-oldest x (y ∷ l) (StoreForm.more e h) = sounds-oldest y l h

-- the empty table is sound
pub empty-sound : sound [] ≡ true
unfolding sound written body offsets rising
empty-sound = refl

-- so the base that is chosen is sound
pub base-sound : (o : Option ℤ) (x : StoredSnap) (l : List StoredSnap) → Based o l → Sounds l → sound (chosen_base o x l).snap ≡ true
unfolding oldest_or
base-sound (some t) x [] m h = elim m [ ]
base-sound Option.none x l unset h = empty-sound
base-sound (some t) x (y ∷ l) (set e) h = sounds-oldest y l h

-- it is the empty table, or one that was accepted
pub base-named : (es : List Accepted) (o : Option ℤ) (x : StoredSnap) (l : List StoredSnap) → Based o l → All (IsAccepted es) l
    → Base (AcceptedAt es) (chosen_base o x l).tick (chosen_base o x l).snap
unfolding oldest_or
base-named es (some t) x [] m a = elim m [ ]
base-named es Option.none x l unset a = Statement.empty
base-named es (some t) x (y ∷ l) (set e) a =
    Statement.named (all_among a (oldest-among y l))

-- its tick is the base tick, or -1
pub base-tick : (o : Option ℤ) (x : StoredSnap) (l : List StoredSnap) → Based o l → (chosen_base o x l).tick ≡ or_none o
unfolding oldest_or
base-tick (some t) x [] m = elim m [ ]
base-tick Option.none x l unset = refl
base-tick (some t) x (y ∷ l) (set e) = e

-- one more table does not change the oldest
based-more : (x : StoredSnap) (o : Option ℤ) (l : List StoredSnap) → Based o l → Based o (x ∷ l)
unfolding oldest_or
based-more x (some t) [] m = elim m [ ]
based-more x Option.none l unset = unset
based-more x (some t) (y ∷ l) (set e) = set e

-- ---- a table is added

-- one more accepted table leaves those accepted before
pub at_more : (a : Accepted) (l : List Accepted) {t : ℤ} {u : Table} → AcceptedAt l t u → AcceptedAt (a ∷ l) t u
at_more a l k = record { table = k.table; accepted = Statement.there k.accepted; tick_is = k.tick_is; table_is = k.table_is }

-- and those that are held
accepted-more : (a : Accepted) (l : List Accepted) (x : StoredSnap) → IsAccepted l x → IsAccepted (a ∷ l) x
accepted-more a l x k = at_more a l k

-- tables that were accepted are below a newer tick
tighten : (n : ℕ) (es : List Accepted) {k : ℕ} {l : List StoredSnap} → Falls k l → All (IsAccepted es) l
    → All (λ (b : Accepted). signed_less b.tick (pos n) ≡ true) es → Falls n l
tighten n es end a r = end
tighten n es (next {n = j} h f) (Statement.more p ps) r =
    let q : signed_less (pos j) (pos n) ≡ true = subst (λ (z : ℤ). signed_less z (pos n) ≡ true) p.tick_is (all_among r p.accepted) in
    next (ltb-true j n q) f

-- a newer table that was accepted is held beside the others
pub keeping-more : (s : Storage) (l : List Accepted) (x : StoredSnap) (a : Accepted) → Keeping s l → length s.snaps < 100 → sound x.snap ≡ true
    → a.tick ≡ x.tick → a.table ≡ x.snap → MadeFrom l a → Rising (a ∷ l) → Keeping (with_snaps s (x ∷ s.snaps)) (a ∷ l)
keeping-more s l x a k lt fine t-is s-is m (Statement.more n q le r rs) =
    record {
      top = suc n;
      falls = falls-next {k = suc n} n x s.snaps (sym t-is ∙ q) (omega arith)
          (tighten n l k.falls k.accepted (all_map (λ (y : Accepted) (p : signed_less y.tick a.tick ≡ true). subst
          (λ (z : ℤ). signed_less y.tick z ≡ true) q p) r));
      based = based-more x s.delta_tick s.snaps k.based;
      accepted = Statement.more (record { table = a; accepted = Statement.here; tick_is = t-is; table_is = s-is }) (all_map (accepted-more a l) k.accepted);
      sounds = StoreForm.more fine k.sounds;
      few = lt;
      chain = more m k.chain;
      sound-all = Statement.more (subst (λ (t : Table). sound t ≡ true) (sym s-is) fine) k.sound-all;
    }

-- the delta of a table that fits is the one that was made
made-from : (c : Controller) (tick : ℤ) (table : List ℤ) (t : Table) (s : Storage) (l : List Accepted) → table_of table ≡ some t → Keeping s l
    → let x : StoredSnap = record { tick = tick; snap = t } in let d : Delta = delta_from (base_of x s).snap t in alike (base_of x s).snap t ≡ true
    → length (written_delta d) ≤ length c.delta
    → MadeFrom l (record { tick = tick; base = (base_of x s).tick; table = items table; delta = delta_in [] (lay (written_delta d) c.delta) })
made-from c tick table t s l e k a h =
    let x : StoredSnap = record { tick = tick; snap = t } in
    let b = (base_of x s).snap in
    let d-is = delta-laid b t c.delta (base-sound s.delta_tick x s.snaps k.based k.sounds) (soundly table t e).1 a h in
    record {
      base = b;
      named = base-named l s.delta_tick x s.snaps k.based k.accepted;
      made = ap (create_delta b) (holds table t e).1 ∙ (made-is b t a ∙ ap (λ (d : Delta). return d) (sym d-is));
    }

-- a refused table does not change what the store holds
pub told-refused : (s : Storage) (k : List Told) (tick : ℤ) (table : List ℤ) → s ≡ storage_told k
    → s ≡ storage_told (record { call = Runs.add_snap tick table; answered = false } ∷ k)
unfolding tables_left last_base
told-refused s k tick table e = e

-- adding the table of an area leaves what follows from the calls
pub told-adding : (c : Controller) (tick : ℤ) (table : List ℤ) (t : Table) (s : Storage) (k : List Told) (o : Outcome AddedSnap) → items table ≡ t
    → s ≡ storage_told k
    → let x : StoredSnap = record { tick = tick; snap = t } in (added_to x s o).storage ≡ storage_told (told_by (Runs.add_snap tick table) (added_step c x s o) k)
unfolding add_step tables_left last_base
told-adding c tick table t s k (ok a w) q e = rw (q, e) refl
told-adding c tick table t s k (err n w) q e = e

-- what adding a table leaves
pub adds-controls : (c : Controller) (tick : ℤ) (table : List ℤ) (t : Table) (s : Storage) (l : List Accepted) (k : List Told) → table_of table ≡ some t
    → Keeping s l → (o : Outcome AddedSnap)
    → let x : StoredSnap = record { tick = tick; snap = t } in let y = added_step c x s o in (added_to x s o).storage ≡ storage_told
    (told_by (Runs.add_snap tick table) y k)
    → Adds (length c.area) (length c.delta) x s o → Rising (accepted_by (Runs.add_snap tick table) y y.answer l)
    → Controls y.next (accepted_by (Runs.add_snap tick table) y y.answer l) (told_by (Runs.add_snap tick table) y k)
unfolding add_step
adds-controls c tick table t s l k e h o q (full n) r = laid_out (length c.area) c.delta s l _ refl h q
adds-controls c tick table t s l k e h o q (clashes n a) r = laid_out (length c.area) c.delta s l _ refl h q
adds-controls c tick table t s l k e h o q (lacks n a f) r = laid_out (length c.area) c.delta s l _ refl h q
adds-controls c tick table t s l k e h o q (fits n a f) r =
    let x : StoredSnap = record { tick = tick; snap = t } in
    let t-is : items table ≡ t = (holds table t e).1 in
    let w = lay (written_delta (delta_from (base_of x s).snap t)) c.delta in
    laid_out (length c.area) w (with_snaps s (x ∷ s.snaps)) _ _ refl
    (keeping-more s l x (record { tick = tick; base = (base_of x s).tick; table = items table; delta = delta_in [] w }) h n (soundly table t e).1 refl
    t-is (made-from c tick table t s l e h a f) r)
    q
