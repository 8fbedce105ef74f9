-- A controller's call on a store in form, by its outcome. Assumes nothing.
use Rattle.std.specs.Prelude.{◌≡◌, refl, Bool, true, false, cond, List, [], ℤ, pos, negsuc, length}
use Rattle.std.proofs.Common.{ap, inr}
use Rattle.std.proofs.Math.Option.{some, none}
use Rattle.definitions.specs.Ints.{signed_less}
use Rattle.definitions.specs.Refusals.{unknown_snap, not_in_form}
use Rattle.definitions.specs.Warnings.{Counts, WeirdNegativeDeltaTick}
use Rattle.definitions.specs.Warnings as Warnings
use Rattle.definitions.specs.Outcome.{Outcome, ok, return, refuse}
use Rattle.definitions.specs.Tables.{Table, table_of}
use Rattle.definitions.specs.Receiver.{same}
use Rattle.definitions.specs.Storage.{StoredSnap, Storage, storage_of, drop_older, oldest_at, base_for, drop_for, is_negative, warn_weird, is_held, Keeps, with_snaps, with_delta_tick, AddedSnap, adding, added_to, add_snap, set_delta_tick}
use Rattle.definitions.specs.StorageCalls.{laid_out, after_judging, held_storage, add_step}
use Rattle.laws.specs.AddingLaws.{adding_to, add-47, add-held}
use Rattle.session.specs.Runs.{Controller, ControllerStep, added, base_set, controller_call}
use Rattle.session.specs.Runs as Runs
use Rattle.session.specs.Statement.{Weird, minus_one, other}
use Rattle.session.specs.Lists.{contra, either}

-- ---- a table is added

-- the step of a controller from the outcome of adding
abbrev pub added_step : Controller → StoredSnap → Storage → Outcome AddedSnap → ControllerStep
added_step c x s o = added (add_step (laid_out c.area (added_to x s o)) (added_to x s o).answer c.delta)

-- a table in form is added to a store in form
pub call-adds : (c : Controller) (tick : ℤ) (table : List ℤ) (t : Table) (s : Storage) → storage_of c.store c.area ≡ some s → table_of table ≡ some t → controller_call c (Runs.add_snap tick table) ≡ added_step c (record { tick = tick; snap = t }) s (adding (length c.area) (length c.delta) (record { tick = tick; snap = t }) s)
unfolding controller_call adding_to add_snap
call-adds c tick table t s e d = ap added (add-held c.store c.area tick table c.delta s t e d)

-- an area that holds no table is refused, and nothing changes
pub call-unformed : (c : Controller) (tick : ℤ) (table : List ℤ) (s : Storage) → storage_of c.store c.area ≡ some s → table_of table ≡ none → controller_call c (Runs.add_snap tick table) ≡ record { answer = refuse not_in_form; next = c }
unfolding controller_call
call-unformed c tick table s e d = ap added (add-47 c.store c.area tick table c.delta (inr d))

-- ---- the base tick is set

-- the outcome of setting a base tick
pub data Sets (tick : ℤ) (s : Storage) : Keeps (Unit {0}) → Type 0 where
  unsets : {w : Counts} → signed_less tick (pos 0) ≡ true → Weird tick w → Sets tick s (record { answer = ok tt w; storage = with_delta_tick s none })
  sets : signed_less tick (pos 0) ≡ false → is_held (base_for tick s.snaps) ≡ true → Sets tick s (record { answer = return tt; storage = with_delta_tick (with_snaps s (drop_for tick s.snaps)) (some tick) })
  lacks : signed_less tick (pos 0) ≡ false → is_held (base_for tick s.snaps) ≡ false → Sets tick s (record { answer = refuse unknown_snap; storage = with_delta_tick (with_snaps s (drop_for tick s.snaps)) none })

-- a tick that is not negative drops what is older
pub drops : (tick : ℤ) (l : List StoredSnap) → signed_less tick (pos 0) ≡ false → drop_for tick l ≡ drop_older tick l
drops tick l e = rw e

-- its base is then the oldest
pub base-left : (tick : ℤ) (l : List StoredSnap) → signed_less tick (pos 0) ≡ false → base_for tick l ≡ oldest_at tick (drop_older tick l)
base-left tick l e = go (signed_less tick (pos 0)) e
  where
    go : (b : Bool) → b ≡ false → cond b (some []) (oldest_at tick (drop_older tick l)) ≡ oldest_at tick (drop_older tick l)
    go true q = contra refl q
    go false q = refl

-- a negative tick is taken, with or without a warning
weird-is : (tick : ℤ) → is_negative tick ≡ true → (w : Counts) × (warn_weird tick ≡ ok tt w) × Weird tick w
weird-is tick e =
    either (same tick (negsuc 0))
    (λ q. (Warnings.none, rw (e, q) refl, minus_one q))
    (λ q. (Warnings.one WeirdNegativeDeltaTick, rw (e, q) refl, other q))

-- setting a base tick has one of these outcomes
pub setting-is : (tick : ℤ) (s : Storage) → Sets tick s (set_delta_tick tick s)
unfolding set_delta_tick
setting-is tick s = go (is_negative tick) (is_held (base_for tick s.snaps)) refl refl (weird-is tick)
  where
    go : (n h : Bool) → is_negative tick ≡ n → is_held (base_for tick s.snaps) ≡ h → (is_negative tick ≡ true → (w : Counts) × (warn_weird tick ≡ ok tt w) × Weird tick w) → Sets tick s (cond n (record { answer = warn_weird tick; storage = with_delta_tick s none }) (cond h (record { answer = return tt; storage = with_delta_tick (with_snaps s (drop_for tick s.snaps)) (some tick) }) (record { answer = refuse unknown_snap; storage = with_delta_tick (with_snaps s (drop_for tick s.snaps)) none })))
    go true h e q f = let (w, r, u) = f e in rw r (unsets {w = w} e u)
    go false true e q w = sets e q
    go false false e q w = lacks e q

-- the step of a controller from the outcome of setting
abbrev pub set_step : Controller → Keeps (Unit {0}) → ControllerStep
set_step c k = base_set c.delta (laid_out c.area k)

-- a base tick is set in a store in form
pub call-sets : (c : Controller) (tick : ℤ) (s : Storage) → storage_of c.store c.area ≡ some s → controller_call c (Runs.set_delta_tick tick) ≡ set_step c (set_delta_tick tick s)
unfolding controller_call held_storage after_judging
call-sets c tick s e = rw e
