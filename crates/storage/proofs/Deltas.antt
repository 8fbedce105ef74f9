-- The steps of taking a delta: the base, the warnings, and the table that is held. Assumes nothing.
use mathlib.Core.Path.{◌≡◌, refl, sym, ap, ◌∙◌, subst}
use mathlib.Core.Bool.{Bool, true, false, cond}
use mathlib.Core.List.{List, [], ◌∷◌}
use mathlib.Core.Option.{Option, some, none}
use Prim.Native.Nat.{ℕ, ◌+◌, ◌-◌, ◌<◌, ◌≤◌, min}
use native.Mathlib.Nat.{zero-add}
use native.Mathlib.Numerals.{add-one}
use native.Mathlib.Omega.{arith}
use borrow.Author.Tests.{le-leb, lt-leb, leb-true, leb-false}
use lib.Dec.{leb}
use lib.IntN.{ℤ}
use lib.ListN.{length, take}
use lib.Seq.{take_all, length-take-le}
use Rattle.definitions.specs.Warnings.{Counts, plus}
use Rattle.definitions.specs.Outcome.{Outcome, ok, err, after, ◌>>=◌, ◌>>◌}
use Rattle.definitions.specs.Tables as Tables
use Rattle.definitions.specs.Deltas.{Delta}
use Rattle.definitions.specs.Applying.{apply_delta}
use Rattle.definitions.specs.Types.{typed}
use Rattle.definitions.specs.Receiver.{same}
use Rattle.definitions.specs.Storage as Store
use Rattle.definitions.specs.StorageCalls as Calls
use Rattle.format.specs.Numbers.{number}
use Rattle.format.specs.Totals.{counts}
use Rattle.format.specs.declared.Error.{Error}
use Rattle.format.specs.declared.Error.TheVariants as error
use Rattle.format.specs.declared.Warnings.{Warnings}
use Rattle.laws.specs.StoreForm.{store_room, room_cons, LaidIn}
use Rattle.store_area.specs.Held.{snaps_in, snap_at, Leaves}
use Rattle.store_area.specs.Stores.{holds_in, Holds}
use Rattle.table.specs.Held.{form_of}
use Rattle.format.specs.Sources.{weirdly, typed_counts, taken_counts}
use Rattle.typed_applying.specs.Answers.{typed_table, table_with}
use Rattle.typed_applying.specs.Answers as Applied
use Rattle.table.specs.declared.checked.TableForm.{TableForm}
use Rattle.typed_applying.specs.declared.checked.Typed.{Typed}
use Rattle.ticks.specs.declared.Tick.{Tick}
use Rattle.storage.specs.States.{store_of, delta_of}
use Rattle.storage.specs.Taking.{sum_of, takings, base_in, warned, Applies}
use Rattle.storage.specs.declared.Storage.{Storage}
use Rattle.storage.specs.declared.checked.Sent.{Sent}
use Rattle.std.specs.Prelude.{Err, None, Ok, Result, Some}
use Rattle.storage.proofs.Forms.{oldest-cons}

-- ---- what is dropped

module _ (a : List ℤ) (l : List Store.StoredSnap) (tick : ℤ) (n k : ℕ) (out : List ℤ) where
  -- a negative tick drops nothing
  pub none_dropped : Store.is_negative tick ≡ true → Leaves a l n k out → Leaves a (Store.drop_for tick l) n k out
  none_dropped e h = rw e h

  -- another one drops what is older
  pub some-dropped : Store.is_negative tick ≡ false → Leaves a (Store.drop_older tick l) n k out → Leaves a (Store.drop_for tick l) n k out
  some-dropped e h = rw e h

-- ---- the base

-- a negative tick has one
pub empty-base : (tick : ℤ) (l : List Store.StoredSnap) → Store.is_negative tick ≡ true → base_in tick l ≡ some []
empty-base tick l e = rw e

-- so its base is held
pub has-empty : (tick : ℤ) (l : List Store.StoredSnap) → Store.is_negative tick ≡ true → true ≡ Store.is_held (base_in tick l)
has-empty tick l e = rw e

-- else it is the oldest
pub old_base : (tick : ℤ) (l : List Store.StoredSnap) → Store.is_negative tick ≡ false → Store.oldest_at tick l ≡ base_in tick l
old_base tick l e = rw e

-- the oldest of some tables
pub oldest-held : (tick : ℤ) (l : List Store.StoredSnap) (n : ℕ) → length l ≡ n → Store.is_held (Store.oldest_at tick l) ≡ true
    → (0 < n) × (Store.oldest_at tick l ≡ some (snap_at l (n - 1)).snap)
unfolding Store.oldest_at
oldest-held tick [] n m e = let z : ◌≡◌ {A = ℕ} 0 1 = cc in absurd (omega arith)
oldest-held tick (x ∷ l) n m e =
    let o : Store.oldest_or x l ≡ snap_at (x ∷ l) (n - 1) = last in
    (omega arith, go (same (Store.oldest_or x l).tick tick) e ∙ ap (λ (y : Store.StoredSnap). some y.snap) o)
  where
    last : Store.oldest_or x l ≡ snap_at (x ∷ l) (n - 1)
    last = oldest-cons x l (n - 1) (omega arith)

    go : (b : Bool) → Store.is_held (cond b (some (Store.oldest_or x l).snap) none) ≡ true
        → cond b (some (Store.oldest_or x l).snap) none ≡ some (Store.oldest_or x l).snap
    go true q = refl
    go false q = let z : ◌≡◌ {A = ℕ} 0 1 = cc in absurd (omega arith)

-- a delta that was applied to it
pub applies-by : (o : Option Tables.Table) (d : Delta) (out : List ℤ) (r : Typed) (b c : Tables.Table) → o ≡ some b → c ≡ b
    → ((apply_delta c d >>= typed) ≡ typed_table (Tables.items out) r) × Applied.Stands out r.table → Applies o d out r
applies-by o d out r b c e f h =
    record {
      made = λ x q. let i : some b ≡ some x = sym e ∙ q in let j : b ≡ x = cc in ap (λ (y : Tables.Table). apply_delta y d >>= typed) (sym j) ∙ (ap (λ (y : Tables.Table). apply_delta y d >>= typed) (sym f) ∙ h.0);
      stands = h.1;
    }

-- ---- the warnings

-- the counts of both steps
counts-are : (b u : Bool) (n : ℕ) → plus (weirdly b) (typed_counts u n) ≡ taken_counts b u n
counts-are true true n = rw (zero-add n)
counts-are true false n = rw (zero-add n)
counts-are false true n = rw (zero-add n)
counts-are false false n = rw (zero-add n)

-- a table, or a refusal, after the warning
with-weird : (b u : Bool) (n : ℕ) (t : Tables.Table) (x : Result TableForm Error) → after (weirdly b) (table_with t x (typed_counts u n)) ≡ table_with t x (taken_counts b u n)
with-weird b u n t (Ok f) = ap (ok t) (counts-are b u n)
with-weird b u n t (Err e) = ap (err (number e)) (counts-are b u n)

-- the warnings of a delta that was applied
pub taken-counted : (tick : ℤ) (made : Typed) (w : Counts) (b : Bool) → Store.warn_weird tick ≡ ok tt (weirdly b)
    → w ≡ taken_counts b made.unknown_delete made.excess → (t : Tables.Table)
    → (Store.warn_weird tick >> typed_table t made) ≡ table_with t made.table w
taken-counted tick made w b e f t =
    ap (λ (o : Outcome (Unit {0})). o >> typed_table t made) e ∙ (with-weird b made.unknown_delete made.excess t made.table ∙ ap (table_with t made.table) (sym f))

-- ---- the sum

-- a sum was sent
pub sum-sent : (m : Sent) (t : Tables.Table) (r : Bool) (k : ℤ) → m.crc ≡ Some k → r ≡ same k (Tables.crc t) → r ≡ Store.sum_fits (sum_of m) t
sum-sent m t r k e f = f ∙ rw e

-- none was
pub no-sum : (m : Sent) (t : Tables.Table) → m.crc ≡ None → true ≡ Store.sum_fits (sum_of m) t
no-sum m t e = rw e

-- ---- the tables that stay

-- up to 99 tables stay
pub stays : (l : List Store.StoredSnap) (n k : ℕ) → k ≡ min n 99 → length l ≡ n → take k l ≡ take 99 l
stays l n k e m = go (leb n 99) refl
  where
    go : (b : Bool) → leb n 99 ≡ b → take k l ≡ take 99 l
    go true q =
        let h = leb-true n 99 q in
        take_all k l (omega (arith, e, m, h)) ∙ sym (take_all 99 l (omega (arith, m, h)))
    go false q =
        let h = leb-false n 99 q in
        let d : k ≡ 99 = omega (arith, e, h) in
        rw d

-- ---- a table is held

-- refused
pub refused-taken : (s : Storage) (a : List ℤ) (k : ℕ) → Holds (store_of s) a k
    → (n : ℕ) (sum : Option ℤ) (tick : ℤ) (e : Error) (w : Warnings) (o : Outcome Tables.Table) → o ≡ err (number e) (counts w)
    → Calls.laid_out a (Store.add_table n sum tick (holds_in (store_of s) a) o) ≡ takings (record { answer = Err e; warnings = w; storage = s }) a
unfolding Store.add_table
refused-taken s a k h n sum tick e w o q = rw (q, ← h.held.stands.area-is, h.held.many)

-- the sum is wrong
pub wrong-sum : (s t : Storage) (a : List ℤ) (k : ℕ) → Holds (store_of s) a k
    → (n : ℕ) (sum : Option ℤ) (tick : ℤ) (w : Warnings) (x : Tables.Table) (o : Outcome Tables.Table) → o ≡ ok x (counts w)
    → Store.sum_fits sum x ≡ false → store_of t ≡ record { count = s.count; ack_tick = none; delta_tick = delta_of s }
    → Calls.laid_out a (Store.add_table n sum tick (holds_in (store_of s) a) o) ≡ takings (record { answer = Err error.InvalidCrc; warnings = w; storage = t }) a
unfolding Store.add_table
wrong-sum s t a k h n sum tick w x o q f g = rw (q, f, g, ← h.held.stands.area-is, h.held.many)

module _ (s : Storage) (a : List ℤ) (k : ℕ) (h : Holds (store_of s) a k) (n used : ℕ) (i : n ≤ s.count)
    (u : used ≡ store_room (take n (snaps_in s.count a))) (z : take n (snaps_in s.count a) ≡ take 99 (snaps_in s.count a)) (tick : Tick)
    (x : Tables.Table) (long : ℕ) (y : long ≡ length (Tables.written x)) (w : Warnings) (sum : Option ℤ) (f : Store.sum_fits sum x ≡ true) where
  -- the table that comes
  abbrev new : Store.StoredSnap
  new = record { tick = tick.0; snap = x }

  -- how many ints the tables take then
  then-long : store_room (Store.push_snap tick.0 x (snaps_in s.count a)) ≡ used + (long + 2)
  then-long = rw (← z) (omega (arith, room_cons new (take n (snaps_in s.count a))))

  -- there is no room
  pub hold-40 : length a < used + (long + 2)
      → Calls.laid_out a (Store.add_table (length a) sum tick.0 (holds_in (store_of s) a) (ok x (counts w))) ≡ takings (record { answer = Err error.CapacityError; warnings = w; storage = s }) a
  unfolding Store.add_table
  hold-40 r = rw (f, lt-leb (store_room (Store.push_snap tick.0 x (snaps_in s.count a))) (length a) (omega (arith, then-long)), ← h.held.stands.area-is, h.held.many)

  -- there is
  pub hold-done : (t : Storage) (out : List ℤ) → used + (long + 2) ≤ length a → LaidIn (length a) (new ∷ take n (snaps_in s.count a)) out
      → store_of t ≡ record { count = n + 1; ack_tick = some tick.0; delta_tick = delta_of s }
      → Calls.laid_out a (Store.add_table (length a) sum tick.0 (holds_in (store_of s) a) (ok x (counts w))) ≡ takings (record { answer = Ok tick; warnings = w; storage = t }) out
  unfolding Store.add_table
  hold-done t out r o g =
      let c : length (take 99 (snaps_in s.count a)) ≡ n = ap length (sym z) ∙ length-take-le n (snaps_in s.count a) (omega (arith, h.held.many)) in
      rw (f, le-leb (store_room (Store.push_snap tick.0 x (snaps_in s.count a))) (length a) (omega (arith, then-long)), g, o, z, c, add-one n)

-- ---- what a delta made

module _ (base : ℤ) (made : Typed) (t : Tables.Table) (w : Counts) (q : warned base (typed_table t made) ≡ table_with t made.table w) where
  -- a table
  pub made_ok : (f : TableForm) → made.table ≡ Ok f → warned base (typed_table t made) ≡ ok t w
  made_ok f e = q ∙ ap (λ (x : Result TableForm Error). table_with t x w) e

  -- or none
  pub made-err : (x : Error) → made.table ≡ Err x → warned base (typed_table t made) ≡ err (number x) w
  made-err x e = q ∙ ap (λ (y : Result TableForm Error). table_with t y w) e

-- the table is in its area
pub made-form : (a : List ℤ) (x : Result TableForm Error) (f : TableForm) → x ≡ Ok f → Applied.Stands a x → Some f ≡ form_of (Tables.table_of a)
made-form a x f e h = subst (Applied.Stands a) e h
