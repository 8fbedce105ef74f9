-- What a store's area holds: tables laid out in it are found again, and an area in form is the layout of its tables. Assumes nothing.
use Rattle.std.specs.Prelude.{ℕ, zero, suc, ◌+◌, ◌-◌, ◌≤◌, Bool, true, List, [], ◌∷◌, ◌++◌, leb, eqb, ℤ, pos, negsuc, length, take, drop, replicate}
use Rattle.std.proofs.Math.Path.{◌≡◌, refl, sym}
use Rattle.std.proofs.Common.{ap, ap₂, ◌∙◌, subst, append_assoc, append-nil, arith, le-leb, leb-true, eqb-true, eq-eqb, length-append, take-append-drop, length-take, drop_of_length-le, take_at, drop_at}
use Rattle.std.proofs.Math.Bool.{false}
use Rattle.std.proofs.Math.Option.{Option, some, none}
use Rattle.std.proofs.lemmas.List.{length-replicate}
use Rattle.definitions.specs.Tables.{Table, written, sound, num, table_of}
use Rattle.definitions.specs.Storage.{StoredSnap, Storage, fresh_storage, store_ints, store_area, Store, beside, all_zero, exactly, cons_snap, snaps_of, storage_with, storage_of}
use Rattle.laws.specs.TableShape.{both}
use Rattle.laws.specs.TableRoundTrip.{soundly, back}

-- the tables of a list are all sound
pub data Sounds : List StoredSnap → Type 0 where
  nothing : Sounds []
  more : {x : StoredSnap} {l : List StoredSnap} → sound x.snap ≡ true → Sounds l → Sounds (x ∷ l)

-- ---- what was laid out is found

-- a number as a count
num_pos : (n : ℕ) → num (pos n) ≡ n
unfolding num
num_pos n = refl

-- zeros are zeros
pub zeros-are : (n : ℕ) → all_zero (replicate n (pos 0)) ≡ true
unfolding all_zero
zeros-are zero = refl
zeros-are (suc n) = rw (num_pos 0) (zeros-are n)

-- a sound table takes exactly its written form
exactly-written : (t : Table) → sound t ≡ true → exactly (length (written t)) (table_of (written t)) ≡ some t
exactly-written t s =
    let e : table_of (written t) ≡ some t = ap table_of (sym (append-nil (written t))) ∙ back t [] s in
    rw (e, eq-eqb (length (written t)) (length (written t)) refl)

-- tables before zeros
pub snaps-found : (l : List StoredSnap) (rest : List ℤ) → Sounds l → all_zero rest ≡ true → snaps_of (length l) (store_ints l ++ rest) ≡ some l
unfolding snaps_of store_ints
snaps-found [] rest nothing z = rw z
snaps-found (x ∷ l) rest (more s h) z =
    let w = written x.snap in
    let tail = store_ints l ++ rest in
    rw (num_pos (length w), append_assoc w (store_ints l) rest, take_at w tail (length w) refl, drop_at w tail (length w) refl, exactly-written x.snap s, snaps-found l rest h z)

-- what a store's area was laid out with is found in it
pub area-found : (n : ℕ) (l : List StoredSnap) → Sounds l → snaps_of (length l) (store_area n l) ≡ some l
area-found n l h = snaps-found l (replicate (n - length (store_ints l)) (pos 0)) h (zeros-are (n - length (store_ints l)))

-- a store of at most 100 sound tables, laid out, is held
pub storage-found : (n : ℕ) (h : Storage) → Sounds h.snaps → length h.snaps ≤ 100 → storage_of (beside h) (store_area n h.snaps) ≡ some h
unfolding storage_of
storage-found n h s few = rw (le-leb (length h.snaps) 100 few, area-found n h.snaps s)

-- zeros hold the empty store
pub fresh-found : (n : ℕ) → storage_of (beside fresh_storage) (replicate n (pos 0)) ≡ some fresh_storage
unfolding storage_of snaps_of
fresh-found n = rw (zeros-are n)

-- zeros are an empty store laid out
pub fresh-area : (n : ℕ) → store_area n [] ≡ replicate n (pos 0)
unfolding store_ints
fresh-area n = let e : n - 0 ≡ n = omega arith in rw e

-- how many ints tables take
abbrev pub store_room : List StoredSnap → ℕ
store_room l = length (store_ints l)

-- no tables take none
pub room-none : store_room [] ≡ 0
unfolding store_ints
room-none = refl

-- a table takes its written form and two ints
pub room_cons : (x : StoredSnap) (l : List StoredSnap) → store_room (x ∷ l) ≡ length (written x.snap) + 2 + store_room l
unfolding store_ints
room_cons x l = omega (arith, length-append (written x.snap) (store_ints l))

-- an area of n ints is these tables laid out
abbrev pub LaidIn : ℕ → List StoredSnap → List ℤ → Type 0
LaidIn n l area = area ≡ store_area n l

-- an area that is laid out is at least as long
pub area-long : (n : ℕ) (l : List StoredSnap) → n ≤ length (store_area n l)
area-long n l = omega (arith, length-append (store_ints l) (replicate (n - length (store_ints l)) (pos 0)), length-replicate {A = ℤ} (n - length (store_ints l)) (pos 0))

-- an area that is laid out keeps its length
pub length-area : (n : ℕ) (l : List StoredSnap) → length (store_ints l) ≤ n → length (store_area n l) ≡ n
length-area n l h = omega (arith, length-append (store_ints l) (replicate (n - length (store_ints l)) (pos 0)), length-replicate {A = ℤ} (n - length (store_ints l)) (pos 0))

-- ---- what is found was laid out

-- an int that counts as a number below 2^32 is that number
num-is : (z : ℤ) (n : ℕ) → num z ≡ n → n ≤ 16384 → z ≡ pos n
unfolding num
num-is (pos m) n e l = ap pos e
num-is (negsuc m) n e l = let z : ⊥ = omega arith in absurd z

-- ints that are all 0 are zeros
pub are-zeros : (a : List ℤ) → all_zero a ≡ true → a ≡ replicate (length a) (pos 0)
unfolding all_zero
are-zeros [] e = refl
are-zeros (x ∷ a) e =
    let p = both (eqb (num x) 0) (all_zero a) e in
    ap₂ (λ (z : ℤ) (l : List ℤ). z ∷ l) (num-is x 0 (eqb-true (num x) 0 p.0) (omega arith)) (are-zeros a p.1)

-- what a list of tables says of ints: they are its tables, all sound, and zeros
pub record Laid (n : ℕ) (a : List ℤ) (l : List StoredSnap) : Type 0 where
  pub many : length l ≡ n
  pub sounds : Sounds l
  pub rest : List ℤ
  pub zeros : all_zero rest ≡ true
  pub whole : a ≡ store_ints l ++ rest

-- a table that takes exactly that many ints is there, and takes them
exactly-there : (n : ℕ) (o : Option Table) (t : Table) → exactly n o ≡ some t → (o ≡ some t) × (length (written t) ≡ n)
exactly-there n none t e = let z : ◌≡◌ {A = ℕ} 0 1 = cc in absurd (omega arith)
exactly-there n (some u) t e = go (eqb (length (written u)) n) refl
  where
    go : (b : Bool) → eqb (length (written u)) n ≡ b → (some u ≡ some t) × (length (written t) ≡ n)
    go true q =
        let r : some u ≡ some t = sym (rw q refl) ∙ e in
        let d : u ≡ t = cc in
        (r, subst (λ (v : Table). length (written v) ≡ n) d (eqb-true (length (written u)) n q))
    go false q =
        let r : none ≡ some t = sym (rw q refl) ∙ e in
        let z : ◌≡◌ {A = ℕ} 0 1 = cc in
        absurd (omega arith)

-- ints of an exact length that hold a table are its written form
exactly-laid : (a : List ℤ) (n : ℕ) (t : Table) → table_of (take n a) ≡ some t → length (written t) ≡ n → (take n a ≡ written t) × (sound t ≡ true)
exactly-laid a n t e m =
    let p = soundly (take n a) t e in
    let w = written t in
    let short : length (take n a) ≤ length w = omega (arith, length-take n a) in
    (p.0 ∙ rw (drop_of_length-le (take n a) short) (append-nil w), p.1)

-- a sound table takes at most 16,384 ints
pub sound-short : (t : Table) → sound t ≡ true → length (written t) ≤ 16384
unfolding sound
sound-short t e =
    let p = both (leb (length t) 1024) _ e in
    let q = both (leb (length (written t)) 16384) _ p.1 in
    leb-true _ _ q.0

-- where a table and others are there, so is each
pub record Consed (tick : ℤ) (o : Option Table) (r : Option (List StoredSnap)) (l : List StoredSnap) : Type 0 where
  pub table : Table
  pub others : List StoredSnap
  pub table_is : o ≡ some table
  pub others-are : r ≡ some others
  pub all_are : record { tick = tick; snap = table } ∷ others ≡ l

cons-there : (tick : ℤ) (o : Option Table) (r : Option (List StoredSnap)) (l : List StoredSnap) → cons_snap tick o r ≡ some l → Consed tick o r l
cons-there tick none r l e = let z : ◌≡◌ {A = ℕ} 0 1 = cc in absurd (omega arith)
cons-there tick (some t) none l e = let z : ◌≡◌ {A = ℕ} 0 1 = cc in absurd (omega arith)
cons-there tick (some t) (some r) l e =
    let d : record { tick = tick; snap = t } ∷ r ≡ l = cc in
    record { table = t; others = r; table_is = refl; others-are = refl; all_are = d }

-- a table more, before those laid out
one_more : (n : ℕ) (tick size : ℤ) (a : List ℤ) (t : Table) (l : List StoredSnap) → table_of (take (num size) a) ≡ some t → length (written t) ≡ num size → Laid n (drop (num size) a) l → Laid (suc n) (tick ∷ size ∷ a) (record { tick = tick; snap = t } ∷ l)
unfolding store_ints
one_more n tick size a t l e m k =
    let p = exactly-laid a (num size) t e m in
    let size_is : size ≡ pos (length (written t)) = num-is size (length (written t)) (sym m) (sound-short t p.1) in
    let a-is : a ≡ (written t ++ store_ints l) ++ k.rest =
    sym (take-append-drop (num size) a)
    ∙ (ap₂ (λ (u v : List ℤ). u ++ v) p.0 k.whole ∙ sym (append_assoc (written t) (store_ints l) k.rest)) in
    record {
      many = ap suc k.many;
      sounds = more p.1 k.sounds;
      rest = k.rest;
      zeros = k.zeros;
      whole = ap₂ (λ (z : ℤ) (u : List ℤ). tick ∷ z ∷ u) size_is a-is;
    }

-- the tables that some ints hold were laid out in them
pub snaps-laid : (n : ℕ) (a : List ℤ) (l : List StoredSnap) → snaps_of n a ≡ some l → Laid n a l
unfolding snaps_of
snaps-laid zero a l e = go (all_zero a) refl
  where
    go : (b : Bool) → all_zero a ≡ b → Laid zero a l
    go true q =
        let r : some [] ≡ some l = sym (rw q refl) ∙ e in
        let d : [] ≡ l = cc in
        subst (Laid zero a) d (record { many = refl; sounds = nothing; rest = a; zeros = q; whole = unfold store_ints in refl })
    go false q =
        let r : none ≡ some l = sym (rw q refl) ∙ e in
        let z : ◌≡◌ {A = ℕ} 0 1 = cc in
        absurd (omega arith)
snaps-laid (suc n) [] l e = let z : ◌≡◌ {A = ℕ} 0 1 = cc in absurd (omega arith)
snaps-laid (suc n) (tick ∷ []) l e = let z : ◌≡◌ {A = ℕ} 0 1 = cc in absurd (omega arith)
snaps-laid (suc n) (tick ∷ size ∷ a) l e =
    let c = cons-there tick (exactly (num size) (table_of (take (num size) a))) (snaps_of n (drop (num size) a)) l e in
    let t = c.table in
    let x = exactly-there (num size) (table_of (take (num size) a)) t c.table_is in
    subst (Laid (suc n) (tick ∷ size ∷ a)) c.all_are
    (one_more n tick size a t c.others x.0 x.1 (snaps-laid n (drop (num size) a) c.others c.others-are))

-- ---- a store in form

-- a store and an area that hold tables are the layout of these tables
pub record Form (s : Store) (area : List ℤ) (h : Storage) : Type 0 where
  pub store_is : s ≡ beside h
  pub area-is : area ≡ store_area (length area) h.snaps
  pub sounds : Sounds h.snaps
  pub few : length h.snaps ≤ 100
  pub room : length (store_ints h.snaps) ≤ length area

-- tables that were laid out fill the area with zeros
laid-area : (n : ℕ) (a : List ℤ) (l : List StoredSnap) → Laid n a l → (a ≡ store_area (length a) l) × (length (store_ints l) ≤ length a)
laid-area n a l k =
    let m : length a ≡ length (store_ints l) + length k.rest = ap length k.whole ∙ length-append (store_ints l) k.rest in
    let e : length k.rest ≡ length a - length (store_ints l) = omega arith in
    let z : k.rest ≡ replicate (length a - length (store_ints l)) (pos 0) = are-zeros k.rest k.zeros ∙ ap (λ (i : ℕ). replicate i (pos 0)) e in
    (k.whole ∙ ap (λ (r : List ℤ). store_ints l ++ r) z, omega arith)

-- if the store is there, so are its tables
with-there : (s : Store) (o : Option (List StoredSnap)) (h : Storage) → storage_with s o ≡ some h → (o ≡ some h.snaps) × (s.ack_tick ≡ h.ack_tick) × (s.delta_tick ≡ h.delta_tick)
with-there s none h e = let z : ◌≡◌ {A = ℕ} 0 1 = cc in absurd (omega arith)
with-there s (some l) h e =
    let d : record { snaps = l; ack_tick = s.ack_tick; delta_tick = s.delta_tick } ≡ h = cc in
    (ap (λ (g : Storage). some g.snaps) d, ap (λ (g : Storage). g.ack_tick) d, ap (λ (g : Storage). g.delta_tick) d)

-- a store that holds tables is their layout
pub storage-laid : (s : Store) (area : List ℤ) (h : Storage) → storage_of s area ≡ some h → Form s area h
unfolding storage_of
storage-laid s area h e = go (leb s.count 100) refl
  where
    go : (b : Bool) → leb s.count 100 ≡ b → Form s area h
    go true q =
        let r : storage_with s (snaps_of s.count area) ≡ some h = sym (rw q refl) ∙ e in
        let w = with-there s (snaps_of s.count area) h r in
        let k = snaps-laid s.count area h.snaps w.0 in
        let a = laid-area s.count area h.snaps k in
        let few : s.count ≤ 100 = leb-true s.count 100 q in
        record {
          store_is = rw (k.many, w.1, w.2);
          area-is = a.0;
          sounds = k.sounds;
          few = omega (arith, k.many);
          room = a.1;
        }
    go false q =
        let r : none ≡ some h = sym (rw q refl) ∙ e in
        let z : ◌≡◌ {A = ℕ} 0 1 = cc in
        absurd (omega arith)
