-- What the builder's calls leave in an area: a table built by a builder and, if there is room, one that the calls alone determine. Assumes nothing.
use Prim.Native.Nat.{ℕ, ◌<◌, ◌≤◌}
use Rattle.std.specs.Prelude.{◌≡◌, ◌⊎◌, Bool, true, false, cond, not, ◌&&◌, ℤ, drop, ltb, leb}
use Rattle.std.proofs.Math.Path.{refl}
use Rattle.std.proofs.Common.{◌∙◌, inl, inr, ⊎_elim, arith, leb-true, leb-false, le-leb}
use mathlib.Core.List.{List, []}
use Rattle.std.proofs.Math.Option.{Option, some, none}
use Rattle.std.proofs.Math.ListN.{length}
use Rattle.definitions.specs.Areas.{lay}
use Rattle.definitions.specs.Refusals.{duplicate_key, too_many_items, too_long_snap, capacity_error, invalid_type_id}
use Rattle.definitions.specs.Warnings.{Counts}
use Rattle.definitions.specs.Warnings as Warnings
use Rattle.definitions.specs.Outcome.{Outcome, ok, err, return, refuse, require, ◌>>◌, Wrote}
use Rattle.definitions.specs.Stored.{stored}
use Rattle.definitions.specs.Tables.{Item, Table, body, offsets, written, sound, table_of, find, is_some, insert}
use Rattle.definitions.specs.TableReading.{add_item}
use Rattle.definitions.specs.TableCalls.{held, stored_table}
use Rattle.definitions.specs.Types.{TypeId, Ordinal, Uuid, kind_number, judge_type_id}
use Rattle.definitions.specs.Builder.{held_builder, add_to, step_on, next_kind, with_kind, add_of_kind, add_typed, add_where, new_call, builder_add_item_call}
use Rattle.laws.specs.AreaLaws.{length-lay, lay-append}
use Rattle.laws.specs.TableRoundTrip.{back}
use Rattle.laws.specs.TableReadSound.{empty-sound, length-written-insert}
use Rattle.laws.specs.DeltaMade.{facts}
use Rattle.laws.specs.BuilderForm.{item_of, of_number, of-kind, of-new-kind, kind-alone, Given, Built, nothing, more, built-sound, built-form}

-- ---- the calls on tables

-- the table after adding an item; if that is refused, the table as it was
abbrev pub or_stay : Table → Outcome Table → Table
or_stay t (ok u w) = u
or_stay t (err n w) = t

-- the same, and then a further step on the table with the item
abbrev pub then_also : Table → Outcome Table → (Table → Table) → Table
then_also t (ok s w) f = f s
then_also t (err n w) f = t

-- with an item of a raw type
abbrev pub after_item : ℕ → ℕ → List ℤ → Table → Table
after_item type id values t = or_stay t (add_item (item_of type id values) t)

-- with an item of a kind, which may have a number
abbrev pub after_kind : Option ℕ → List ℤ → ℕ → List ℤ → Table → Table
after_kind (some n) k id values t = after_item n id values t
after_kind none k id values t =
    then_also t (add_item (item_of 0 (next_kind t) k) t) (λ s. after_item (next_kind t) id values s)

-- with an item of a type
unfoldable pub after_type : TypeId → ℕ → List ℤ → Table → Table
after_type (Ordinal n) id values t = after_item n id values t
after_type (Uuid k) id values t = after_kind (kind_number k t) k id values t

-- where a type is refused, the table is as it was
abbrev pub unless_refused : Outcome (Unit {0}) → Table → Table → Table
unless_refused (ok x w) u t = u
unless_refused (err n w) u t = t

-- a builder's table after a call
abbrev pub after_call : TypeId → ℕ → List ℤ → Table → Table
after_call type id values t = unless_refused (judge_type_id type) (after_type type id values t) t

-- ---- a table laid over the front of an area

-- an area that holds a table that a builder built
pub data HoldsBuilt (a : List ℤ) : Type 0 where
  holds-built : {t : Table} → table_of a ≡ some t → Built t → HoldsBuilt a

-- an area after a call: it keeps its length and holds a table built by a builder, which is the given one if there is room
pub data Leaves (a : List ℤ) (next : Table) (out : List ℤ) : Type 0 where
  leaves : {u : Table} → table_of out ≡ some u → Built u → length out ≡ length a → (16384 ≤ length a → u ≡ next) → Leaves a next out

-- a sound table that fits is held
pub laid-held : (t : Table) (a : List ℤ) → sound t ≡ true → length (written t) ≤ length a → table_of (lay (written t) a) ≡ some t
laid-held t a s l = rw (lay-append (written t) a l) (back t (drop (length (written t)) a) s)

-- an item is added, or refused
pub adds-or-not : (i : Item) (t : Table) → (add_item i t ≡ return (insert i t)) ⊎ ((n : ℕ) × (add_item i t ≡ refuse n))
unfolding add_item
adds-or-not i t = go (not (is_some (find i.key t))) (ltb (length t) 1024) (leb (length (written (insert i t))) 16384)
  where
    go : (p q r : Bool) → ((require p duplicate_key >> (require q too_many_items >> (require r too_long_snap >> return (insert i t)))) ≡ return (insert i t))
        ⊎ ((n : ℕ) × ((require p duplicate_key >> (require q too_many_items >> (require r too_long_snap >> return (insert i t)))) ≡ refuse n))
    go true true true = inl refl
    go true true false = inr (too_long_snap, refl)
    go true false r = inr (too_many_items, refl)
    go false q r = inr (duplicate_key, refl)

-- the area after adding an item: as it was, if refused or short of room, or the table with the item
data Left (a : List ℤ) (i : Item) (t : Table) : Wrote ℕ ℤ → Type 0 where
  refused : {n m : ℕ} {c : Counts} → add_item i t ≡ refuse m → Left a i t (record { answer = err n c; out = a })
  no_room : {n : ℕ} {c : Counts} → add_item i t ≡ return (insert i t) → length a < length (written (insert i t)) → Left a i t (record { answer = err n c; out = a })
  with_it : {n : ℕ} {c : Counts} → add_item i t ≡ return (insert i t) → length (written (insert i t)) ≤ length a → Left a i t (record { answer = ok n c; out = lay (written (insert i t)) a })

-- it is one of these
left : (a : List ℤ) (i : Item) (t : Table) → Left a i t (stored_table a (add_item i t))
unfolding stored
left a i t =
    ⊎_elim
    (λ (e : add_item i t ≡ return (insert i t)). rw e (fits e (leb (length (written (insert i t))) (length a)) refl))
    (λ (e : (n : ℕ) × (add_item i t ≡ refuse n)). rw e.1 (refused e.1))
    (adds-or-not i t)
  where
    fits : add_item i t ≡ return (insert i t) → (p : Bool) → leb (length (written (insert i t))) (length a) ≡ p
        → Left a i t (cond p (record { answer = ok (length (written (insert i t))) Warnings.none; out = lay (written (insert i t)) a }) (record { answer = err capacity_error Warnings.none; out = a }))
    fits e true q = with_it e (leb-true _ _ q)
    fits e false q = no_room e (leb-false _ _ q)

-- ---- one call

module _ (a : List ℤ) (t : Table) (e : table_of a ≡ some t) (b : Built t) where
  -- where one item is added to the area's table
  one-item : (i : Item) (w : Wrote ℕ ℤ) → Left a i t w → (add_item i t ≡ return (insert i t) → Built (insert i t)) → Leaves a (or_stay t (add_item i t)) w.out
  one-item i w (refused f) h = leaves e b refl (λ l. rw f)
  one-item i w (no_room f m) h =
      leaves e b refl (λ l. absurd (omega (arith, (facts (insert i t) (built-sound (h f))).short)))
  one-item i w (with_it f m) h =
      leaves (laid-held (insert i t) a (built-sound (h f)) m) (h f) (length-lay (written (insert i t)) a) (λ l. rw f)

  -- where the item that names a new kind goes first
  two_items : (k : List ℤ) (id : ℕ) (values : List ℤ) → Given (Uuid k) id values → kind_number k t ≡ none → (w : Wrote ℕ ℤ) → Left a (item_of 0 (next_kind t) k) t w
      → Leaves a (after_kind none k id values t) (step_on (add_item (item_of 0 (next_kind t) k) t) w (λ c. add_to c (with_kind t (next_kind t) k) (next_kind t) id values)).out
  two_items k id values g o w (refused f) = rw f (leaves e b refl (λ l. refl))
  two_items k id values g o w (no_room f m) =
      let s = with_kind t (next_kind t) k in
      let first : Built s = more b g (unfold judge_type_id in refl) (kind-alone o f) in
      rw f (leaves-it s first m (add_to a s (next_kind t) id values) (left a (item_of (next_kind t) id values) s))
    where
      -- if there is no room for the first, there is none for both
      leaves-it : (s : Table) → Built s → length a < length (written s) → (v : Wrote ℕ ℤ) → Left a (item_of (next_kind t) id values) s v → Leaves a (after_item (next_kind t) id values s) v.out
      leaves-it s first m v (refused d) = leaves e b refl (λ l. absurd (omega (arith, (facts s (built-sound first)).short)))
      leaves-it s first m v (no_room d r) = leaves e b refl (λ l. absurd (omega (arith, (facts s (built-sound first)).short)))
      leaves-it s first m v (with_it d r) = absurd (omega (arith, length-written-insert (item_of (next_kind t) id values) s))
  two_items k id values g o w (with_it f m) =
      let s = with_kind t (next_kind t) k in
      let first : Built s = more b g (unfold judge_type_id in refl) (kind-alone o f) in
      rw f (second s first (lay (written s) a) (laid-held s a (built-sound first) m) (length-lay (written s) a) f)
    where
      second : (s : Table) → Built s → (c : List ℤ) → table_of c ≡ some s → length c ≡ length a → add_item (item_of 0 (next_kind t) k) t ≡ return s
          → Leaves a (after_item (next_kind t) id values s) (add_to c s (next_kind t) id values).out
      second s first c h n f = go (add_to c s (next_kind t) id values) (left c (item_of (next_kind t) id values) s)
        where
          two : add_item (item_of (next_kind t) id values) s ≡ return (insert (item_of (next_kind t) id values) s) → Built (insert (item_of (next_kind t) id values) s)
          two d = more b g (unfold judge_type_id in refl) (of-new-kind o f d)

          go : (w : Wrote ℕ ℤ) → Left c (item_of (next_kind t) id values) s w → Leaves a (after_item (next_kind t) id values s) w.out
          go w (refused d) = leaves h first n (λ l. rw d)
          go w (no_room d m) = leaves h first n (λ l. absurd (omega (arith, (facts _ (built-sound (two d))).short)))
          go w (with_it d m) =
              leaves (laid-held _ c (built-sound (two d)) m) (two d) (length-lay (written (insert (item_of (next_kind t) id values) s)) c ∙ n) (λ l. rw d)

  -- an item of a kind, which may have a number
  kind-item : (k : List ℤ) (id : ℕ) (values : List ℤ) → Given (Uuid k) id values → (o : Option ℕ) → kind_number k t ≡ o → Leaves a (after_kind o k id values t) (add_of_kind a t o k id values).out
  kind-item k id values g (some n) q =
      one-item (item_of n id values) (add_to a t n id values) (left a (item_of n id values) t)
      (λ f. more b g (unfold judge_type_id in refl) (of-kind q f))
  kind-item k id values g none q =
      two_items k id values g q (add_to a t 0 (next_kind t) k) (left a (item_of 0 (next_kind t) k) t)

  -- an item of a type that is not refused
  typed-item : (type : TypeId) (id : ℕ) (values : List ℤ) → Given type id values → judge_type_id type ≡ return tt → Leaves a (after_type type id values t) (add_typed a t type id values).out
  unfolding add_typed after_type
  typed-item (Ordinal n) id values g j =
      one-item (item_of n id values) (add_to a t n id values) (left a (item_of n id values) t) (λ f. more b g j (of_number f))
  typed-item (Uuid k) id values g j = kind-item k id values g (kind_number k t) refl

  -- the area's table is a builder's
  pub builder-held : held_builder a ≡ return t
  unfolding held_builder held
  builder-held = rw (e, built-form b)

-- a type is refused, or not
judges : (type : TypeId) → (judge_type_id type ≡ return tt) ⊎ ((n : ℕ) × (judge_type_id type ≡ refuse n))
unfolding judge_type_id
judges (Ordinal n) = go (ltb 0 n && ltb n 16384)
  where
    go : (p : Bool) → (require p invalid_type_id ≡ return tt) ⊎ ((m : ℕ) × (require p invalid_type_id ≡ refuse m))
    go true = inl refl
    go false = inr (invalid_type_id, refl)
judges (Uuid k) = inl refl

-- the area after a call, refused or not, if it held a table built by a builder
pub add-leaves : (a : List ℤ) (t : Table) (type : TypeId) (id : ℕ) (values : List ℤ) → Given type id values → table_of a ≡ some t → Built t
    → Leaves a (after_call type id values t) (builder_add_item_call a type id values).out
unfolding add_where
add-leaves a t type id values g e b =
    rw (builder-held a t e b)
    (⊎_elim
    (λ (j : judge_type_id type ≡ return tt). rw j (typed-item a t e b type id values g j))
    (λ (j : (n : ℕ) × (judge_type_id type ≡ refuse n)). rw j.1 (leaves e b refl (λ l. refl)))
    (judges type))

-- such an area holds one after each call
pub add_holds : (a : List ℤ) (type : TypeId) (id : ℕ) (values : List ℤ) → Given type id values → HoldsBuilt a → HoldsBuilt (builder_add_item_call a type id values).out
add_holds a type id values g (holds-built {t} e b) = go (add-leaves a t type id values g e b)
  where
    go : Leaves a (after_call type id values t) (builder_add_item_call a type id values).out → HoldsBuilt (builder_add_item_call a type id values).out
    go (leaves h c n s) = holds-built h c

-- a new area holds the empty table, where it has room
pub new-holds : (a : List ℤ) → 2 ≤ length a → table_of (new_call a).out ≡ some []
unfolding stored
new-holds a l =
    let n : length (written []) ≡ 2 = unfold written body offsets in refl in
    rw (le-leb (length (written [])) (length a) (omega arith)) (laid-held [] a empty-sound (omega arith))

-- and so a table that a builder built
pub new-built : (a : List ℤ) → 2 ≤ length a → HoldsBuilt (new_call a).out
new-built a l = holds-built (new-holds a l) nothing
