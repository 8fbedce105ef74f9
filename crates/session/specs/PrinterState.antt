-- How a printer's receiver and store agree with the logbook, while messages of accepted tables come. Assumes nothing.
use Rattle.std.specs.Prelude.{◌≡◌, Bool, true, false, not, List, [], ℕ, suc, ◌≤◌, ◌<◌, ltb, ℤ, pos, length}
use Rattle.std.proofs.Math.Path.{refl}
use Rattle.std.proofs.Common.{sym, ap, subst, arith}
use Rattle.std.proofs.Math.Option.{Option, some}
use borrow.Author.Tests.{ltb-true, le-leb, lt-ltb}
use Rattle.definitions.specs.Ints.{signed_less}
use Rattle.definitions.specs.Tables.{Table, sound, crc}
use Rattle.definitions.specs.Messages.{num_parts}
use Rattle.definitions.specs.Receiver.{Receiver, fresh_receiver, finished_at, count_in, above_previous, receiver_form, is_old}
use Rattle.definitions.specs.Storage.{StoredSnap, Storage, drop_older}
use Rattle.definitions.specs.Logbook.{Logbook, fresh_logbook, all_came}
use Rattle.laws.specs.StoreForm.{Sounds, store_room}
use Rattle.laws.specs.StoreForm as StoreForm
use Rattle.laws.specs.StoreRoom.{room-older, length-older}
use Rattle.session.specs.Runs.{Accepted, packed}
use Rattle.session.specs.Statement.{Among, here, there, All, none, more, Rising, Carried}
use Rattle.session.specs.Lists.{all_among}
use Rattle.session.specs.PartsHeld.{Holding, holding-count, holding-few}
use Rattle.session.specs.HeldTicks.{ticks, Falls, falls-drop, falls-weaken, all_drop}
use Rattle.session.specs.Sending.{is_large, parts_needed}

-- ---- accepted tables by tick

-- an accepted table's tick is a number
pub record Numbered (a : Accepted) : Type 0 where
  pub number : ℕ
  pub tick_is : a.tick ≡ pos number
  pub int : number ≤ 2147483647

-- each accepted tick is one
pub numbered : {l : List Accepted} {a : Accepted} → Rising l → Among a l → Numbered a
numbered none m = elim m [ ]
numbered (more n e h f r) here = record { number = n; tick_is = e; int = h }
numbered (more n e h f r) (there m) = numbered r m

-- a tick is not below itself
never-below : (n : ℕ) (y z : ℤ) → y ≡ pos n → z ≡ y → signed_less z y ≡ true → ⊥
never-below n y z e q h =
    let u : signed_less y y ≡ true = subst (λ (x : ℤ). signed_less x y ≡ true) q h in
    let v : ltb n n ≡ true = subst (λ (x : ℤ). signed_less x x ≡ true) e u in
    omega (arith, ltb-true n n v)

-- the table accepted at a tick is one
pub one-accepted : {l : List Accepted} {a b : Accepted} → Rising l → Among a l → Among b l → a.tick ≡ b.tick → a ≡ b
one-accepted none m k q = elim m [ ]
one-accepted (more n e h f r) here here q = refl
one-accepted {a = a} {b = b} (more n e h f r) here (there m) q = absurd (never-below n a.tick b.tick e (sym q) (all_among f m))
one-accepted {a = a} {b = b} (more n e h f r) (there m) here q = absurd (never-below n b.tick a.tick e q (all_among f m))
one-accepted (more n e h f r) (there k) (there m) q = one-accepted r k m q

-- ---- the table at a tick

-- the tables that ticks name: one a tick, sound, at ticks that are numbers; those of the deltas that go out are among them
pub record Naming (es : List Accepted) (At : ℤ → Table → Type 0) : Type 0 where
  pub one : {t : ℤ} {u v : Table} → At t u → At t v → u ≡ v
  pub number : {t : ℤ} {u : Table} → At t u → (n : ℕ) × (t ≡ pos n) × (n ≤ 2147483647)
  pub sounds : {t : ℤ} {u : Table} → At t u → sound u ≡ true
  pub covers : {a : Accepted} → Among a es → At a.tick a.table

-- a table that is held is the one at its tick
abbrev pub AtTick : (ℤ → Table → Type 0) → StoredSnap → Type 0
AtTick At x = At x.tick x.snap

-- tables at their ticks are sound
pub named-sounds : {es : List Accepted} {At : ℤ → Table → Type 0} {l : List StoredSnap} → Naming es At → All (AtTick At) l → Sounds l
named-sounds nm none = StoreForm.nothing
named-sounds nm (more p ps) = StoreForm.more (nm.sounds p) (named-sounds nm ps)

-- ---- what is compared

-- a receiver while parts of a table's tick are missing, under known sizes
abbrev pub waiting_for : List ℤ → Option ℤ → ℕ → Accepted → List ℕ → Receiver
waiting_for sizes previous t a lengths =
    record {
      previous_tick = previous;
      current =
          some (record {
            tick = pos t;
            delta_tick = a.base;
            num_parts = num_parts (packed sizes a);
            crc = crc a.table;
          });
      parts = lengths;
    }

-- a tick that is not above the finished one is old
pub finished-old : (u t : ℕ) → ltb u t ≡ false → is_old (finished_at (pos u)) (pos t) ≡ true
unfolding is_old
finished-old u t e = ap not e

-- one above it is not
pub finished-new : (u t : ℕ) → ltb u t ≡ true → is_old (finished_at (pos u)) (pos t) ≡ false
unfolding is_old
finished-new u t e = ap not e

-- a tick is old when it is below the one that is waited for
pub waiting-old : (sizes : List ℤ) (previous : Option ℤ) (u : ℕ) (a : Accepted) (lengths : List ℕ) (t : ℕ) (b : Bool) → ltb t u ≡ b → is_old (waiting_for sizes previous u a lengths) (pos t) ≡ b
unfolding is_old
waiting-old sizes previous u a lengths t b e = e

-- a store's tables, acknowledgement and base tick
abbrev pub storing : List StoredSnap → Option ℤ → Option ℤ → Storage
storing l k o = record { snaps = l; ack_tick = k; delta_tick = o }

-- the newest tick, its parts that came, the ticks of tables held, and the acknowledgement
abbrev pub notes : ℤ → List ℕ → List ℤ → Option ℤ → Logbook
notes t came held k = record { newest = some t; came = came; held = held; acknowledged = k }

module _ (sizes : List ℤ) (instead : ℤ → Bool) (es : List Accepted) (At : ℤ → Table → Type 0) (n : ℕ) where
  -- tables accepted at ticks below k, the newest first, at most 100, for which an area of n ints has room
  pub record Held (k : ℕ) (l : List StoredSnap) : Type 0 where
    pub falls : Falls k l
    pub accepted : All (AtTick At) l
    pub few : length l ≤ 100
    pub room : store_room l ≤ n

  -- what is held after dropping
  pub held-drop : (b : ℕ) {k : ℕ} {l : List StoredSnap} → Held k l → Held k (drop_older (pos b) l)
  held-drop b {k} {l} h =
      record {
        falls = falls-drop b h.falls;
        accepted = all_drop (pos b) l h.accepted;
        few = omega (arith, length-older (pos b) l, h.few);
        room = omega (arith, room-older (pos b) l, h.room);
      }

  -- what is held below k is held below j, where j is not less
  pub held-weaken : {k : ℕ} (j : ℕ) {l : List StoredSnap} → k ≤ j → Held k l → Held j l
  held-weaken j e h =
      record { falls = falls-weaken j e h.falls; accepted = h.accepted; few = h.few; room = h.room }

  -- no tick came yet; or the newest is finished; or parts of it are in, and some are missing
  pub data Agree : Receiver → List ℕ → Storage → Logbook → Type 0 where
    fresh : {area : List ℕ} {o : Option ℤ} → Agree fresh_receiver area (storing [] Option.none o) fresh_logbook
    finished : {a : Accepted} {area came : List ℕ} {l : List StoredSnap} {k o : Option ℤ} {t : ℕ} → Among a es → a.tick ≡ pos t → all_came (parts_needed sizes instead a) came ≡ true → Held (suc t) l → Agree (finished_at (pos t)) area (storing l k o) (notes (pos t) came (ticks l) k)
    waiting : {a : Accepted} {previous : Option ℤ} {lengths area came : List ℕ} {l : List StoredSnap} {k o : Option ℤ} {t : ℕ} → Among a es → a.tick ≡ pos t → is_large sizes instead a ≡ true → Carried sizes a → Holding (packed sizes a) lengths area came → all_came (num_parts (packed sizes a)) came ≡ false → 0 < length came → above_previous previous (pos t) ≡ true → Held t l → Agree (waiting_for sizes previous t a lengths) area (storing l k o) (notes (pos t) came (ticks l) k)

  -- few parts, where packed deltas are short
  pub few-parts : {a : Accepted} → Carried sizes a → num_parts (packed sizes a) ≤ 32
  few-parts c = omega (arith, c.short)

  -- the receiver is in form
  pub agree-form : {r : Receiver} {area : List ℕ} {s : Storage} {g : Logbook} → Agree r area s g → receiver_form r ≡ true
  unfolding receiver_form count_in
  agree-form fresh = refl
  agree-form (finished m e c h) = refl
  agree-form (waiting {a = a} {lengths = lengths} {came = came} m e big carried hold c some_in above h) =
      let f = few-parts carried in
      rw (above, le-leb (num_parts (packed sizes a)) 32 f, holding-count hold f, lt-ltb 0 (length came) some_in, lt-ltb (length came) (num_parts (packed sizes a)) (holding-few hold c)) refl
