-- What a store answers to a delta has warnings of its own kinds. Assumes nothing.
use Rattle.std.specs.Prelude.{refl, Bool, true, false, cond, not, ◌&&◌, ◌||◌, List, [], ◌∷◌, ℕ, ◌+◌, ltb, leb, eqb, ℤ, negsuc, length}
use Rattle.std.proofs.Math.Option.{Option, some, none}
use Rattle.definitions.specs.Ints.{signed_less}
use Rattle.definitions.specs.Refusals.{too_many_items, too_long_snap, delta_differing_sizes, duplicate_uuid_type, invalid_uuid_type, missing_uuid_type, store_old_delta, invalid_crc, capacity_error}
use Rattle.definitions.specs.Warnings.{UnknownDelete, ExcessUuidItemData, WeirdNegativeDeltaTick}
use Rattle.definitions.specs.Outcome.{Outcome, ok, err, refuse, ◌>>◌}
use Rattle.definitions.specs.Tables.{Item, Table, key_of, find, is_some, insert, written, walk}
use Rattle.definitions.specs.Deltas.{Delta}
use Rattle.definitions.specs.DeltaMaking.{agree}
use Rattle.definitions.specs.Applying.{kept, updated_item, change_item, new_item, apply_updates, apply_delta}
use Rattle.definitions.specs.Types.{type_of, has_kind, kind_named, judge_types, typed}
use Rattle.definitions.specs.Receiver.{same}
use Rattle.definitions.specs.Storage as Store
use Rattle.laws.specs.StoreForm.{store_room}
use Rattle.laws.specs.WarningKinds.{of_store, Told, value, refusal, Any, storing, returns, given, warns, either, then}
use Rattle.laws.specs.WarningKinds as Kinds

-- ---- a delta that is applied

-- an item with its differences added
item-told : (b : Table) (u : Item) → Told of_store (Any {A = Item}) (updated_item b u)
unfolding updated_item
item-told b u =
    then storing {Q = Any} _ (given storing (agree (find u.key b) u.values) delta_differing_sizes (λ _. returns storing _ tt))
    (λ v _. returns storing _ tt)

-- an item that the table has already
change-told : (b : Table) (u : Item) (t : Table) → Told of_store (Any {A = Table}) (change_item b u t)
unfolding change_item
change-told b u t = then storing _ (item-told b u) (λ i _. returns storing _ tt)

-- an item that it has not
new_told : (b : Table) (u : Item) (t : Table) → Told of_store (Any {A = Table}) (new_item b u t)
unfolding new_item
new_told b u t =
    given storing (ltb (length t) 1024) too_many_items
    (λ _. given storing (leb (length (written (insert u t))) 16384) too_long_snap
    (λ _. then storing _ (item-told b u) (λ i _. returns storing _ tt)))

-- all updates
updates-told : (b : Table) (us : List Item) (t : Table) → Told of_store (Any {A = Table}) (apply_updates b us t)
unfolding apply_updates
updates-told b [] t = returns storing t tt
updates-told b (u ∷ us) t =
    then storing {Q = Any} _ (either storing (is_some (find u.key t)) (change-told b u t) (new_told b u t)) (λ v _. updates-told b us v)

-- the delta
delta-told : (b : Table) (d : Delta) → Told of_store (Any {A = Table}) (apply_delta b d)
unfolding apply_delta
delta-told b d =
    warns storing (not (eqb (length (kept d.deleted b) + length d.deleted) (length b))) UnknownDelete refl
    (updates-told b d.updated (kept d.deleted b))

-- ---- its types

-- the kind that an item of type 0 names
kind-told : (values : List ℤ) → Told of_store (Any {A = List ℤ}) (kind_named values)
unfolding kind_named
kind-told values =
    warns storing (ltb 4 (length values)) ExcessUuidItemData refl
    (given storing (leb 4 (length values)) invalid_uuid_type (λ _. returns storing _ tt))

-- the types of some items
types-told : (t : Table) (kinds : List (List ℤ)) (l : List Item) → Told of_store (Any {A = Unit {0}}) (judge_types t kinds l)
unfolding judge_types
types-told t kinds [] = returns storing tt tt
types-told t kinds (x ∷ l) =
    either storing (eqb (type_of x) 0)
    (then storing _ (kind-told x.values) (λ k _. given storing (not (has_kind k kinds)) duplicate_uuid_type (λ _. types-told t (k ∷ kinds) l)))
    (given storing (ltb (type_of x) 16384 || is_some (find (key_of 0 (type_of x)) t)) missing_uuid_type (λ _. types-told t kinds l))

-- the types of a table
typed-told : (t : Table) → Told of_store (Any {A = Table}) (typed t)
unfolding typed
typed-told t = Kinds.next storing (types-told t [] (walk t)) (returns storing t tt)

-- ---- the call

-- a table for a tick
table-told : (n : ℕ) (sum : Option ℤ) (tick : ℤ) (s : Store.Storage) {o : Outcome Table} → Told of_store (Any {A = Table}) o → Told of_store (Any {A = ℤ}) (Store.add_table n sum tick s o).answer
unfolding Store.add_table
table-told n sum tick s (refusal e) = refusal e
table-told n sum tick s (value {a = t} {w = w} p e) = go (Store.sum_fits sum t) (leb (store_room (Store.push_snap tick t s.snaps)) n)
  where
    go : (a b : Bool) → Told of_store (Any {A = ℤ}) (cond {A = Store.Keeps ℤ} a (cond b (record { answer = ok tick w; storage = Store.with_ack (Store.with_snaps s (Store.push_snap tick t s.snaps)) (some tick) }) (record { answer = err capacity_error w; storage = s })) (record { answer = err invalid_crc w; storage = Store.with_ack s none })).answer
    go true true = value tt e
    go true false = refusal e
    go false b = refusal e

-- after the look at the base's tick
weird-told : (tick : ℤ) {o : Outcome Table} → Told of_store (Any {A = Table}) o → Told of_store (Any {A = Table}) (Store.warn_weird tick >> o)
weird-told tick h = warns storing (Store.is_negative tick && not (same tick (negsuc 0))) WeirdNegativeDeltaTick refl h

-- a delta on the base that was found, if one was
on-told : (n : ℕ) (sum : Option ℤ) (base tick : ℤ) (d : Delta) (s : Store.Storage) (o : Option Table) → Told of_store (Any {A = ℤ}) (Store.add_on n sum base tick d s o).answer
unfolding Store.add_on
on-told n sum base tick d s none = refusal refl
on-told n sum base tick d s (some b) =
    table-told n sum tick s (weird-told base (then storing _ (delta-told b d) (λ t _. typed-told t)))

-- a delta for a tick
pub add-told : (n : ℕ) (sum : Option ℤ) (base tick : ℤ) (d : Delta) (s : Store.Storage) → Told of_store (Any {A = ℤ}) (Store.add_delta n sum base tick d s).answer
unfolding Store.add_delta
add-told n sum base tick d s =
    let t : Store.Storage = Store.with_snaps s (Store.drop_for base s.snaps) in
    let b : Option Table = Store.base_for base s.snaps in
    go (signed_less (Store.newest_tick s.snaps) tick) (Store.add_on n sum base tick d t b) (on-told n sum base tick d t b)
  where
    go : (b : Bool) (k : Store.Keeps ℤ) → Told of_store (Any {A = ℤ}) k.answer → Told of_store (Any {A = ℤ}) (cond b k (record { answer = refuse store_old_delta; storage = s })).answer
    go true k h = h
    go false k h = refusal refl
