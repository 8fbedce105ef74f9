-- The tables that a builder builds: they are sound, are in the builder's form, and have sound types. Assumes nothing.
use Rattle.std.specs.Prelude.{ℕ, ◌+◌, ◌<◌, ◌≤◌, ◌≡◌, refl, Bool, true, false, cond, not, ◌&&◌, ◌||◌, List, [], ◌∷◌, ℤ, length, ltb, leb}
use Rattle.std.proofs.Common.{sym, ◌∙◌, arith, take_all, ltb-true, lt-ltb, eq-eqb}
use Rattle.std.proofs.Math.Path.{subst}
use Rattle.std.proofs.Math.Bool.{or-true}
use Rattle.std.proofs.Math.Option.{some, none}
use Rattle.definitions.specs.Refusals.{duplicate_key, too_many_items, too_long_snap, invalid_type_id}
use Rattle.definitions.specs.Outcome.{return, require, ◌>>◌}
use Rattle.definitions.specs.Tables.{Item, Table, key_of, written, sound, find, is_some, insert}
use Rattle.definitions.specs.TableReading.{add_item}
use Rattle.definitions.specs.Types.{TypeId, Ordinal, Uuid, type_of, has_kind, typed, kind_number, judge_type_id}
use Rattle.definitions.specs.Builder.{kinds_run, num_kinds, builder_form, next_kind}
use Rattle.laws.specs.OutcomeLaws.{ok-value, ok-not-err}
use Rattle.laws.specs.PackLaws.{Whole}
use Rattle.laws.specs.TableReadSound.{no_item, added-sound, empty-sound}
use Rattle.laws.specs.DeltaMade.{facts}
use Rattle.laws.specs.TableChanged.{find-insert}
use Rattle.laws.specs.TableEach.{Each, no_more, WholeTable}
use Rattle.laws.specs.KindLaws.{names_kind, is_plain, is-kind, kinds_in, kinds_in-plain, kinds_run-plain, next-kind, has-number, no_number}
use Rattle.laws.specs.TypeLaws.{Sane, kind, plain, Distinct, types-judged, each_map, each-insert, still-sane, distinct_more}

-- ---- what a builder builds

-- an item of a raw type and an id
abbrev pub item_of : ℕ → ℕ → List ℤ → Item
item_of type id values = record { key = key_of type id; values = values }

-- what one call of a builder does to a table: it adds an item with a number; one of a kind that has a number; the item that names a
-- new kind, and then the other; or the first of these two alone
pub data Adds (t : Table) : TypeId → ℕ → List ℤ → Table → Type 0 where
  of_number : {n id : ℕ} {values : List ℤ} {u : Table} → add_item (item_of n id values) t ≡ return u → Adds t (Ordinal n) id values u
  of-kind : {n id : ℕ} {k values : List ℤ} {u : Table} → kind_number k t ≡ some n → add_item (item_of n id values) t ≡ return u → Adds t (Uuid k) id values u
  of-new-kind : {id : ℕ} {k values : List ℤ} {s u : Table} → kind_number k t ≡ none → add_item (item_of 0 (next_kind t) k) t ≡ return s → add_item (item_of (next_kind t) id values) s ≡ return u → Adds t (Uuid k) id values u
  kind-alone : {id : ℕ} {k values : List ℤ} {s : Table} → kind_number k t ≡ none → add_item (item_of 0 (next_kind t) k) t ≡ return s → Adds t (Uuid k) id values s

-- a kind is four ints of 32 bits
abbrev pub GivenType : TypeId → Type 0
GivenType (Ordinal n) = Unit {0}
GivenType (Uuid k) = (length k ≡ 4) × Whole k

-- what a call is given: a type, an id of 16 bits, and ints of 32 bits
pub record Given (type : TypeId) (id : ℕ) (values : List ℤ) : Type 0 where
  pub type-given : GivenType type
  pub id_below : id < 65536
  pub whole : Whole values

-- the empty table, and the results of calls on built tables with types that are not refused
pub data Built : Table → Type 0 where
  nothing : Built []
  more : {t u : Table} {type : TypeId} {id : ℕ} {values : List ℤ} → Built t → Given type id values → judge_type_id type ≡ return tt → Adds t type id values u → Built u

-- ---- an item that was added

-- what adding says
pub was-added : (i : Item) (t u : Table) → add_item i t ≡ return u → (insert i t ≡ u) × (is_some (find i.key t) ≡ false)
unfolding add_item
was-added i t u e = go (not (is_some (find i.key t))) refl (ltb (length t) 1024) (leb (length (written (insert i t))) 16384) e
  where
    go : (p : Bool) → not (is_some (find i.key t)) ≡ p → (q r : Bool) → (require p duplicate_key >> (require q too_many_items >> (require r too_long_snap >> return (insert i t)))) ≡ return u
        → (insert i t ≡ u) × (is_some (find i.key t) ≡ false)
    go true f true true d = (ok-value d, no_item _ f)
    go true f true false d = absurd (ok-not-err (sym d))
    go true f false r d = absurd (ok-not-err (sym d))
    go false f q r d = absurd (ok-not-err (sym d))

-- what is known about a table built by a builder
pub record Formed (t : Table) : Type 0 where
  pub is-sound : sound t ≡ true
  pub runs : kinds_run 16384 t ≡ true
  pub sane : Each (Sane t) t
  pub distinct : Distinct [] (kinds_in t)
  pub whole : WholeTable t

-- the empty table
nothing-formed : Formed []
unfolding kinds_run kinds_in
nothing-formed = record { is-sound = empty-sound; runs = refl; sane = no_more; distinct = tt; whole = no_more }

-- one more item, and all still sane
with_item : (i : Item) (t : Table) → sound (insert i t) ≡ true → is_some (find i.key t) ≡ false → Whole i.values → kinds_run 16384 (insert i t) ≡ true → Distinct [] (kinds_in (insert i t)) → Sane (insert i t) i → Formed t → Formed (insert i t)
with_item i t s n w r d p f =
    record {
      is-sound = s;
      runs = r;
      sane = each-insert (Sane (insert i t)) i p (each_map (still-sane i t n) f.sane);
      distinct = d;
      whole = each-insert (λ (x : Item). Whole x.values) i w f.whole;
    }

-- an item that names no kind
plain-formed : (type id : ℕ) (values : List ℤ) (t u : Table) → 0 < type → type < 65536 → id < 65536 → Whole values → (ltb type 16384 || is_some (find (key_of 0 type) t)) ≡ true → add_item (item_of type id values) t ≡ return u → Formed t → Formed u
plain-formed type id values t u l h b w p e f =
    let i = item_of type id values in
    let a = was-added i t u e in
    let s = added-sound i t u (omega arith) f.is-sound e in
    let n : names_kind i ≡ false = is_plain i (omega arith) in
    let of : type_of i ≡ type = omega arith in
    let q : (ltb (type_of i) 16384 || is_some (find (key_of 0 (type_of i)) t)) ≡ true = rw of p in
    subst Formed a.0
    (with_item i t (rw a.0 s) a.1 w
    (kinds_run-plain 16384 i t n ∙ f.runs)
    (subst (Distinct []) (sym (kinds_in-plain i t n)) f.distinct)
    (still-sane i t a.1 i (plain n q)) f)

-- no more kinds than items
few-kinds : (t : Table) → num_kinds t ≤ length t
unfolding num_kinds
few-kinds [] = omega arith
few-kinds (x ∷ t) = go (names_kind x) (few-kinds t)
  where
    go : (p : Bool) → num_kinds t ≤ length t → cond p 1 0 + num_kinds t ≤ length (x ∷ t)
    go true l = omega arith
    go false l = omega arith

-- so the next kind's number is of 16 bits
pub next-below : (t : Table) → sound t ≡ true → next_kind t < 65536
next-below t s = omega (arith, (facts t s).few, few-kinds t)

-- an item that names a new kind
kind-formed : (k : List ℤ) (t u : Table) → length k ≡ 4 → Whole k → kind_number k t ≡ none → add_item (item_of 0 (next_kind t) k) t ≡ return u → Formed t → Formed u
kind-formed k t u l w o e f =
    let i = item_of 0 (next_kind t) k in
    let b = next-below t f.is-sound in
    let a = was-added i t u e in
    let s = added-sound i t u (omega arith) f.is-sound e in
    let h = next-kind 16384 0 i t (facts t f.is-sound).rises f.runs (omega arith) (omega arith) l in
    let d = distinct_more [] (kinds_in t) k (take_all 4 k (omega arith)) f.distinct (unfold has_kind in refl) (no_number k t o) in
    subst Formed a.0
    (with_item i t (rw a.0 s) a.1 w h.0 (subst (Distinct []) (sym h.1) d) (kind (is-kind i (omega arith)) l) f)

-- ---- one call, and all

-- a number that is not refused as a type
number-below : (n : ℕ) → judge_type_id (Ordinal n) ≡ return tt → (0 < n) × (n < 16384)
unfolding judge_type_id
number-below n e = go (ltb 0 n) (ltb n 16384) refl refl e
  where
    go : (p q : Bool) → ltb 0 n ≡ p → ltb n 16384 ≡ q → require (p && q) invalid_type_id ≡ return tt → (0 < n) × (n < 16384)
    go true true f g d = (ltb-true _ _ f, ltb-true _ _ g)
    go true false f g d = absurd (ok-not-err (sym d))
    go false q f g d = absurd (ok-not-err (sym d))

-- a number that an item of the table has
named : (n : ℕ) (t : Table) → is_some (find n t) ≡ true → (ltb n 16384 || is_some (find (key_of 0 n) t)) ≡ true
named n t e =
    let z : key_of 0 n ≡ n = omega arith in
    rw (z, e) (or-true (ltb n 16384))

-- a new item is found
found-new : (i : Item) (t : Table) → is_some (find i.key t) ≡ false → is_some (find i.key (insert i t)) ≡ true
found-new i t n = rw (find-insert i t n i.key, eq-eqb i.key i.key refl)

-- a call on a formed table leaves it formed
adds-formed : {t u : Table} {type : TypeId} {id : ℕ} {values : List ℤ} → Given type id values → judge_type_id type ≡ return tt → Adds t type id values u → Formed t → Formed u
adds-formed {t} g j (of_number {n} {id} {values} {u} e) f =
    let b = number-below n j in
    plain-formed n id values t u b.0 (omega (arith, b.1)) g.id_below g.whole (rw (lt-ltb n 16384 b.1)) e f
adds-formed {t} g j (of-kind {n} {id} {k} {values} {u} o e) f =
    let h = has-number k n 16384 t f.runs o in
    plain-formed n id values t u (omega (arith, h.0)) h.1 g.id_below g.whole (named n t h.2) e f
adds-formed {t} g j (of-new-kind {id} {k} {values} {s} {u} o d e) f =
    let n = next_kind t in
    let i = item_of 0 n k in
    let a = was-added i t s d in
    let found : is_some (find (key_of 0 n) s) ≡ true = subst (λ (l : Table). is_some (find (key_of 0 n) l) ≡ true) a.0 (found-new i t a.1) in
    plain-formed n id values s u (omega arith) (next-below t f.is-sound) g.id_below g.whole (rw found (or-true (ltb n 16384))) e
    (kind-formed k t s g.type-given.0 g.type-given.1 o d f)
adds-formed {t} g j (kind-alone {id} {k} {values} {s} o d) f =
    kind-formed k t s g.type-given.0 g.type-given.1 o d f

-- every table that a builder built is formed
pub built-formed : {t : Table} → Built t → Formed t
built-formed nothing = nothing-formed
built-formed (more b g j a) = adds-formed g j a (built-formed b)

module _ {t : Table} (b : Built t) where
  -- it is sound
  pub built-sound : sound t ≡ true
  built-sound = (built-formed b).is-sound

  -- its data ints fit 32 bits
  pub built-whole : WholeTable t
  built-whole = (built-formed b).whole

  -- its types are sound, without a warning
  pub built-typed : typed t ≡ return t
  built-typed = types-judged t (built-formed b).sane (built-formed b).distinct

  -- it is in the builder's form
  pub built-form : builder_form t ≡ true
  unfolding builder_form
  built-form = rw ((built-formed b).runs, built-typed)
