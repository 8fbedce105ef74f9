-- How many tables a call leaves in a store: no more than a row can hold. Assumes nothing.
use Rattle.std.specs.Prelude.{◌≡◌, refl, Bool, true, false, cond, ◌&&◌, List, ◌∷◌, ℕ, ◌≤◌, ◌<◌, ◌^◌, ltb, ℤ, length}
use Rattle.std.proofs.Math.Option.{Option, some, none}
use Rattle.std.proofs.Common.{arith, ltb-true, length-take}
use Rattle.std.proofs.Math.Dec.{leb}
use Rattle.definitions.specs.Warnings.{Counts}
use Rattle.definitions.specs.Outcome.{Outcome, ok, err, after, require, ◌>>=◌, ◌>>◌}
use Rattle.definitions.specs.Ints.{signed_less}
use Rattle.definitions.specs.Refusals.{scratch_too_short, not_in_form}
use Rattle.definitions.specs.Tables.{Table}
use Rattle.definitions.specs.TableCalls.{held}
use Rattle.definitions.specs.Deltas.{Delta}
use Rattle.definitions.specs.DeltaCalls.{held_delta}
use Rattle.definitions.specs.Storage.{StoredSnap, Storage, Store, storage_of, Keeps, AddedSnap, newest_tick, drop_for, with_snaps, base_for, is_negative, is_held, push_snap, sum_fits, add_table, add_on, add_delta, adding, added_to, add_snap, set_delta_tick}
use Rattle.definitions.specs.TableCalls.{or_not_in_form}
use Rattle.definitions.specs.StorageCalls.{StoreStep, Both, WithTable, after_judging, held_storage, judge_delta, judge_table, add_snap_step, add_step, add_delta_call, add_snap_call, set_delta_tick_call}
use Rattle.definitions.specs.Messages.{Message}
use Rattle.definitions.specs.Receiver.{Receiver, ReceivedDelta, Receives, receiver_form}
use Rattle.definitions.specs.Manager.{Manager, fitting_delta, sum_of, receive, after_reading, after_receiving, handle, judge_manager, managed, message_call}
use Rattle.laws.specs.StoreForm.{storage-laid, store_room}
use Rattle.laws.specs.StoreRoom.{length-for}

-- ---- what holds of a value, if there is one

module _ {A : Type 0} (P : A → Type 0) where
  abbrev pub Every : Outcome A → Type 0
  Every (ok a w) = P a
  Every (err n w) = Unit {0}

  every-after : (w : Counts) (o : Outcome A) → Every o → Every (after w o)
  every-after w (ok a v) p = p
  every-after w (err n v) p = tt

  -- for two steps, by the second
  pub every-then : {B : Type 0} (o : Outcome B) (q : Outcome A) → Every q → Every (o >> q)
  every-then (ok b w) q p = every-after w q p
  every-then (err n w) q p = tt

  pub every-last : {B : Type 0} (o : Outcome B) (f : B → Outcome A) → ((b : B) → Every (f b)) → Every (o >>= f)
  every-last (ok b w) f p = every-after w (f b) (p b)
  every-last (err n w) f p = tt

module _ {A B : Type 0} (P : A → Type 0) (Q : B → Type 0) where
  -- for two steps, by both
  pub every_bind : (o : Outcome A) (f : A → Outcome B) → Every P o → ((a : A) → P a → Every Q (f a)) → Every Q (o >>= f)
  every_bind (ok a w) f p g = every-after Q w (f a) (g a p)
  every_bind (err n w) f p g = tt

-- ---- a store of at most 100 tables

abbrev pub Few : Storage → Type 0
Few s = length s.snaps ≤ 100

-- what a store and its area hold
pub held-few : (s : Store) (area : List ℤ) → Every Few (held_storage s area)
unfolding held_storage
held-few s area = go (storage_of s area) refl
  where
    go : (o : Option Storage) → storage_of s area ≡ o → Every Few (or_not_in_form o)
    go (some h) e = (storage-laid s area h e).few
    go none e = tt

-- either of two
either : {A : Type 0} (b : Bool) (k l : Keeps A) → Few k.storage → Few l.storage → Few (cond b k l).storage
either true k l p q = p
either false k l p q = q

-- ---- the steps of the calls

-- older tables are dropped
for-few : (tick : ℤ) (s : Storage) → Few s → length (drop_for tick s.snaps) ≤ 100
for-few tick s f = omega (arith, length-for tick s.snaps)

table-few : (n : ℕ) (sum : Option ℤ) (tick : ℤ) (s : Storage) (o : Outcome Table) → Few s → Few (add_table n sum tick s o).storage
unfolding add_table
table-few n sum tick s (err e w) f = f
table-few n sum tick s (ok t w) f =
    either (sum_fits sum t) _ _
    (either (leb (store_room (push_snap tick t s.snaps)) n) _ _
    (omega (arith, length-take 100 (record { tick = tick; snap = t } ∷ s.snaps))) f)
    f

on-few : (n : ℕ) (sum : Option ℤ) (base tick : ℤ) (d : Delta) (s : Storage) (o : Option Table) → Few s → Few (add_on n sum base tick d s o).storage
unfolding add_on
on-few n sum base tick d s none f = f
on-few n sum base tick d s (some b) f = table-few n sum tick s _ f

pub delta-few : (n : ℕ) (sum : Option ℤ) (base tick : ℤ) (d : Delta) (s : Storage) → Few s → Few (add_delta n sum base tick d s).storage
unfolding add_delta
delta-few n sum base tick d s f =
    either (signed_less (newest_tick s.snaps) tick) _ _
    (on-few n sum base tick d (with_snaps s (drop_for base s.snaps)) (base_for base s.snaps) (for-few base s f)) f

set-few : (tick : ℤ) (s : Storage) → Few s → Few (set_delta_tick tick s).storage
unfolding set_delta_tick
set-few tick s f =
    either (is_negative tick) _ _ f
    (either (is_held (base_for tick s.snaps)) _ _ (for-few tick s f) (for-few tick s f))

added-few : (x : StoredSnap) (s : Storage) → length s.snaps < 100 → (o : Outcome AddedSnap) → Few (added_to x s o).storage
added-few x s f (ok a w) = omega arith
added-few x s f (err n w) = omega arith

snap-few : (n m : ℕ) (x : StoredSnap) (s : Storage) → Few s → Few (add_snap n m x s).storage
unfolding add_snap adding
snap-few n m x s f = go (ltb (length s.snaps) 100) refl
  where
    go : (b : Bool) → ltb (length s.snaps) 100 ≡ b → Few (added_to x s (adding n m x s)).storage
    go true e = added-few x s (ltb-true (length s.snaps) 100 e) (adding n m x s)
    go false e = unfold adding in rw e f

-- ---- the calls

-- the store fits into its rows
abbrev pub Fits : Store → Type 0
Fits s = s.count < 2 ^ 32

-- for an equal store
pub fits-before : {s h : Store} → s ≡ h → Fits s → Fits h
fits-before e f = rw e at f

module _ (s : Store) (area : List ℤ) (fits : Fits s) where
  step_fits : {A B : Type 0} (P : B → Type 0) (o : Outcome B) (f : B → Keeps A) → Every P o → ((x : B) → P x → Few (f x).storage) → Fits (after_judging s area o f).store
  unfolding after_judging
  step_fits P (ok x w) f p g = omega (arith, g x p)
  step_fits P (err n w) f p g = fits

  pub set-fits : (tick : ℤ) → Fits (set_delta_tick_call s area tick).store
  set-fits tick = step_fits Few (held_storage s area) (set_delta_tick tick) (held-few s area) (set-few tick)

  judged-delta : (delta : List ℤ) (n : ℕ) → Every (λ (x : Both). Few x.storage) (judge_delta s area delta n)
  unfolding judge_delta
  judged-delta delta n =
      every_bind Few (λ (x : Both). Few x.storage) (held_storage s area) _ (held-few s area)
      (λ h p. every-last (λ (x : Both). Few x.storage) (held_delta delta) _
      (λ d. every-then (λ (x : Both). Few x.storage) (require (leb 16384 n) scratch_too_short) _ p))

  pub delta-fits : (sum : Option ℤ) (base tick : ℤ) (delta : List ℤ) (n : ℕ) → Fits (add_delta_call s area sum base tick delta n).store
  delta-fits sum base tick delta n =
      step_fits (λ (x : Both). Few x.storage) (judge_delta s area delta n) _ (judged-delta delta n)
      (λ x p. delta-few (length area) sum base tick x.delta x.storage p)

  judged-table : (table : List ℤ) → Every (λ (x : WithTable). Few x.storage) (judge_table s area table)
  unfolding judge_table
  judged-table table =
      every_bind Few (λ (x : WithTable). Few x.storage) (held_storage s area) _ (held-few s area)
      (λ h p. every-last (λ (x : WithTable). Few x.storage) (held table) _ (λ t. p))

  pub snap-fits : (tick : ℤ) (table delta : List ℤ) → Fits (add_snap_call s area tick table delta).store
  unfolding add_snap_step
  snap-fits tick table delta = go (add_snap_step s area tick table (length delta)) (step_fits (λ (x : WithTable). Few x.storage) (judge_table s area table) _ (judged-table table) (λ x p. snap-few (length area) (length delta) (record { tick = tick; snap = x.table }) x.storage p)) (add_snap_step s area tick table (length delta)).answer
    where
      go : (k : StoreStep AddedSnap) → Fits k.store → (o : Outcome AddedSnap) → Fits (add_step k o delta).store
      go k f (ok a w) = unfold add_step in f
      go k f (err n w) = unfold add_step in f

-- ---- a message for a manager

reading-few : (n : ℕ) (w : Counts) (r : Receives) (x : ReceivedDelta) (s : Storage) (delta : List ℤ) (o : Outcome Delta) → Few s → Few (after_reading n w r x s delta o).manager.storage
unfolding after_reading
reading-few n w r x s delta (ok d v) f = delta-few n (sum_of x.data_and_crc) x.delta_tick x.tick d s f
reading-few n w r x s delta (err e v) f = f

receiving-few : (sizes : List ℤ) (n : ℕ) (r : Receives) (s : Storage) (delta : List ℤ) (o : Outcome (Option ReceivedDelta)) → Few s → Few (after_receiving sizes n r s delta o).manager.storage
unfolding after_receiving
receiving-few sizes n r s delta (ok (some x) w) f =
    reading-few n w r x s delta (fitting_delta sizes r.joined (length delta) x.data_and_crc) f
receiving-few sizes n r s delta (ok none w) f = f
receiving-few sizes n r s delta (err e w) f = f

module _ (sizes : List ℤ) (r : Receiver) (s : Store) (m : Message) (parts joined : List ℕ) (delta area : List ℤ) where
  managed-fits : (o : Outcome Manager) → Fits s → Every (λ (g : Manager). Few g.storage) o → Fits (managed sizes r s m parts joined delta area o).store
  unfolding managed handle
  managed-fits (ok g w) f p =
      let x = receive g.receiver m.numbers m.bytes parts joined in
      omega (arith, receiving-few sizes (length area) x g.storage delta x.answer p)
  managed-fits (err n w) f p = f

  judged-manager : (n : ℕ) → Every (λ (g : Manager). Few g.storage) (judge_manager r s area (length parts) (length joined) n)
  unfolding judge_manager
  judged-manager n =
      every-then (λ (g : Manager). Few g.storage) (require (receiver_form r) not_in_form) _
      (every_bind Few (λ (g : Manager). Few g.storage) (held_storage s area) _ (held-few s area)
      (λ h p. every-then (λ (g : Manager). Few g.storage) (require (leb 28800 n && (leb 28800 (length parts) && leb 28800 (length joined))) scratch_too_short) _ p))

  pub message-fits : (n : ℕ) → Fits s → Fits (message_call sizes r s m parts joined delta area n).store
  message-fits n f = managed-fits (judge_manager r s area (length parts) (length joined) n) f (judged-manager n)
