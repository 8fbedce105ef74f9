-- The key beside the answer of making a delta, and of adding a table: it comes with 10 alone, and is the first that clashes. Assumes nothing.
use Rattle.std.specs.Prelude.{ℕ, ◌<◌, ◌≤◌, ◌≡◌, ◌⊎◌, Bool, cond, List, eqb, ℤ, length}
use Rattle.std.proofs.Math.Path.{refl, ap}
use Rattle.std.proofs.Common.{sym, ◌∙◌, subst, ⊎_elim, inl, inr, eqb-true}
use Rattle.std.proofs.Math.Bool.{true, false}
use Rattle.std.proofs.Math.Option.{Option, some, none}
use native.Mathlib.Omega.{arith}
use Rattle.std.proofs.Math.Dec.{leb}
use Rattle.definitions.specs.Ints.{bits, from_bits}
use Rattle.definitions.specs.Areas.{lay}
use Rattle.definitions.specs.Refusals.{delta_differing_sizes, capacity_error, store_full, not_in_form}
use Rattle.definitions.specs.Warnings.{Counts}
use Rattle.definitions.specs.Outcome.{Outcome, ok, err, return, refuse, Wrote}
use Rattle.definitions.specs.Stored.{stored}
use Rattle.definitions.specs.Tables.{Table, items, table_of, rising}
use Rattle.definitions.specs.Deltas.{written_delta}
use Rattle.definitions.specs.DeltaMaking.{alike, first_clash, delta_from, create_delta}
use Rattle.definitions.specs.DeltaCalls.{key_int, clash_of, create_call, create_clash}
use Rattle.definitions.specs.Storage.{StoredSnap, Storage, Store, storage_of, AddedSnap, adding, added_to, add_snap}
use Rattle.definitions.specs.StorageCalls.{StoreStep, laid_out, Added, AddStep, add_step, add_snap_call, clash_with, add_snap_clash}
use Rattle.laws.specs.Tests.{below}
use Rattle.laws.specs.IntLaws.{bits_back}
use Rattle.laws.specs.OutcomeLaws.{ok-not-err}
use Rattle.laws.specs.TableShape.{fails}
use Rattle.laws.specs.TableRoundTrip.{soundly}
use Rattle.laws.specs.TableReadBack.{holds}
use Rattle.laws.specs.DeltaMade.{facts}
use Rattle.laws.specs.CreateLaws.{created_ints, create-47, create-held}
use Rattle.laws.specs.AddingLaws.{base_of, Adds, full, clashes, lacks, fits, adding-is, adding_to, add-47, add-held}
use Rattle.laws.specs.ClashLaws.{alike-clash, unlike-clash, First, clash-first, clash-same}

-- ---- keys as ints

-- a key that is told is the first that clashes
told-first : (b t : Table) (k : ℤ) → rising 0 t ≡ true → key_int (first_clash b t) ≡ some k → First b t (bits k)
told-first b t k r e = go (first_clash b t) refl
  where
    go : (o : Option ℕ) → first_clash b t ≡ o → First b t (bits k)
    go none f =
        let d : none ≡ some k = rw f at e in
        let z : ◌≡◌ {A = ℕ} 0 1 = cc in absurd (omega arith)
    go (some j) f =
        let d : some (from_bits j) ≡ some k = rw f at e in
        let m : from_bits j ≡ k = cc in
        let c = clash-first b t j r f in
        subst (First b t) (sym (bits_back j c.whole) ∙ ap bits m) c

-- tables that are not alike have a key to tell
unlike-told : (b t : Table) → alike b t ≡ false → (k : ℤ) × (key_int (first_clash b t) ≡ some k)
unlike-told b t e = let k = unlike-clash b t e in (from_bits k.0, ap key_int k.1)

-- no key is some
not-told : {P : Type 0} {o : Option ℤ} {k : ℤ} → o ≡ none → o ≡ some k → P
not-told e f = let z : ◌≡◌ {A = ℕ} 0 1 = cc in absurd (omega arith)

-- 47 is not 10
unformed-10 : {A : Type 0} {o : Outcome A} (w : Counts) → o ≡ err delta_differing_sizes w → o ≡ refuse not_in_form → ⊥
unformed-10 w e f = let z : not_in_form ≡ delta_differing_sizes = cc in omega arith

-- ---- the key of an answer

module _ {A : Type 0} where
  -- a key comes with 10
  key-10 : (o : Outcome A) (b t : Table) (k : ℤ) → clash_of o b t ≡ some k → (w : Counts) × (o ≡ err delta_differing_sizes w)
  key-10 (ok a w) b t k e = let z : ◌≡◌ {A = ℕ} 0 1 = cc in absurd (omega arith)
  key-10 (err n w) b t k e = go (eqb n delta_differing_sizes) refl
    where
      go : (p : Bool) → eqb n delta_differing_sizes ≡ p → (v : Counts) × (◌≡◌ {A = Outcome A} (err n w) (err delta_differing_sizes v))
      go true q = (w, rw (eqb-true n delta_differing_sizes q))
      go false q =
          let d : none ≡ some k = rw q at e in
          let z : ◌≡◌ {A = ℕ} 0 1 = cc in absurd (omega arith)

-- ---- making a delta

-- the key of a delta that is made
made-clash : (b t : Table) → clash_of (created_ints b t) b t ≡ key_int (first_clash b t)
unfolding create_delta
made-clash b t = go (alike b t) refl
  where
    go : (p : Bool) → alike b t ≡ p → clash_of (created_ints b t) b t ≡ key_int (first_clash b t)
    go true q = rw (q, alike-clash b t q)
    go false q = rw q

-- laying a delta into an area tells no key of its own
stored-clash : (out : List ℤ) (o : Outcome (List ℤ)) (b t : Table) → clash_of (stored out o).answer b t ≡ clash_of o b t
unfolding stored
stored-clash out (err n w) b t = refl
stored-clash out (ok l w) b t = go (leb (length l) (length out))
  where
    go : (p : Bool)
        → clash_of (cond {A = Wrote ℕ ℤ} p (record { answer = ok (length l) w; out = lay l out }) (record { answer = err capacity_error w; out = out })).answer b t
        ≡ none
    go true = refl
    go false = refl

module _ (base target out : List ℤ) where
  -- without two tables no key is told
  pub create-unformed : (table_of base ≡ none) ⊎ (table_of target ≡ none) → create_clash base target out ≡ none
  create-unformed e = rw (create-47 base target out e)

  module _ (b t : Table) (e : table_of base ≡ some b) (f : table_of target ≡ some t) where
    -- with both it is the first that clashes
    pub create-is : create_clash base target out ≡ key_int (first_clash b t)
    create-is = rw ((holds base b e).1, (holds target t f).1, create-held base target out b t e f) (stored-clash out (created_ints b t) b t ∙ made-clash b t)

    -- a delta that is refused with 10 is between tables that clash
    create-unlike : (w : Counts) → (create_call base target out).answer ≡ err delta_differing_sizes w → alike b t ≡ true → ⊥
    unfolding create_delta stored
    create-unlike w a q = go (leb (length (written_delta (delta_from b t))) (length out)) refl (rw (create-held base target out b t e f) at a)
      where
        go : (p : Bool) → leb (length (written_delta (delta_from b t))) (length out) ≡ p → (stored out (created_ints b t)).answer ≡ err delta_differing_sizes w → ⊥
        go true r a =
            let d : return (length (written_delta (delta_from b t))) ≡ err delta_differing_sizes w = rw (q, r) at a in
            ok-not-err d
        go false r a =
            let d : refuse {A = ℕ} capacity_error ≡ err delta_differing_sizes w = rw (q, r) at a in
            let z : capacity_error ≡ delta_differing_sizes = cc in omega arith

-- what a key that is told says: the answer is 10, and the key is the first that clashes in two tables
pub record Told {A : Type 0} (answer : Outcome A) (base target : Option Table) (k : ℤ) : Type 0 where
  pub from : Table
  pub to : Table
  pub warnings : Counts
  pub from_is : base ≡ some from
  pub to_is : target ≡ some to
  pub answer-is : answer ≡ err delta_differing_sizes warnings
  pub first : First from to (bits k)

module _ (base target out : List ℤ) where
  -- a key is told with 10 alone, and it is the first
  pub create-told : (k : ℤ) → create_clash base target out ≡ some k → Told (create_call base target out).answer (table_of base) (table_of target) k
  create-told k e = go (table_of base) (table_of target) refl refl
    where
      go : (o p : Option Table) → table_of base ≡ o → table_of target ≡ p → Told (create_call base target out).answer (table_of base) (table_of target) k
      go none p f g = not-told (create-unformed base target out (inl f)) e
      go (some b) none f g = not-told (create-unformed base target out (inr g)) e
      go (some b) (some t) f g =
          let a = key-10 (create_call base target out).answer (items base) (items target) k e in
          record {
            from = b;
            to = t;
            warnings = a.0;
            from_is = f;
            to_is = g;
            answer-is = a.1;
            first = told-first b t k (facts t (soundly target t g).1).rises (sym (create-is base target out b t f g) ∙ e);
          }

  -- 10 comes with a key
  pub create-tells : (w : Counts) → (create_call base target out).answer ≡ err delta_differing_sizes w → (k : ℤ) × (create_clash base target out ≡ some k)
  create-tells w a = go (table_of base) (table_of target) refl refl
    where
      go : (o p : Option Table) → table_of base ≡ o → table_of target ≡ p → (k : ℤ) × (create_clash base target out ≡ some k)
      go none p f g = absurd (unformed-10 w a (ap (λ (r : Wrote ℕ ℤ). r.answer) (create-47 base target out (inl f))))
      go (some b) none f g = absurd (unformed-10 w a (ap (λ (r : Wrote ℕ ℤ). r.answer) (create-47 base target out (inr g))))
      go (some b) (some t) f g =
          let n = fails (alike b t) (create-unlike base target out b t f g w a) in
          let k = unlike-told b t n in
          (k.0, create-is base target out b t f g ∙ k.1)

-- base and target exchanged, and for every area to write to, the key is the same
pub create-same : (base target out out' : List ℤ) → create_clash base target out ≡ create_clash target base out'
create-same base target out out' = go (table_of base) (table_of target) refl refl
  where
    go : (o p : Option Table) → table_of base ≡ o → table_of target ≡ p → create_clash base target out ≡ create_clash target base out'
    go none p f g = create-unformed base target out (inl f) ∙ sym (create-unformed target base out' (inr f))
    go (some b) none f g = create-unformed base target out (inr g) ∙ sym (create-unformed target base out' (inl g))
    go (some b) (some t) f g =
        create-is base target out b t f g
        ∙ (ap key_int (clash-same b t (facts b (soundly base b f).1).rises (facts t (soundly target t g).1).rises)
        ∙ sym (create-is target base out' t b g f))

-- ---- adding a table

-- the base's table, if there is a store
abbrev pub base_in : StoredSnap → Option Storage → Option Table
base_in x (some h) = some (base_of x h).snap
base_in x none = none

-- a refused addition, step by step
step-err : (k : StoreStep AddedSnap) (o : Outcome AddedSnap) (delta : List ℤ) (n : ℕ) (w : Counts) → (add_step k o delta).answer ≡ err n w → o ≡ err n w
unfolding add_step
step-err k (ok a v) delta n w e = absurd (ok-not-err e)
step-err k (err m v) delta n w e =
    let p : m ≡ n = cc in
    let q : v ≡ w = cc in rw (p, q)

added-err : (x : StoredSnap) (h : Storage) (o : Outcome AddedSnap) (n : ℕ) (w : Counts) → (added_to x h o).answer ≡ err n w → o ≡ err n w
added-err x h (ok a v) n w e = absurd (ok-not-err e)
added-err x h (err m v) n w e = e

-- the key is that of the outcome
step-clash : (k : StoreStep AddedSnap) (o : Outcome AddedSnap) (delta : List ℤ) (b t : Table) → clash_of (add_step k o delta).answer b t ≡ clash_of o b t
unfolding add_step
step-clash k (ok a v) delta b t = refl
step-clash k (err m v) delta b t = refl

added-clash : (x : StoredSnap) (h : Storage) (o : Outcome AddedSnap) (b t : Table) → clash_of (added_to x h o).answer b t ≡ clash_of o b t
added-clash x h (ok a v) b t = refl
added-clash x h (err m v) b t = refl

module _ {n m : ℕ} {x : StoredSnap} {h : Storage} where
  -- with 100 tables held no key is told
  full-clash : {o : Outcome AddedSnap} → Adds n m x h o → 100 ≤ length h.snaps → clash_of o (base_of x h).snap x.snap ≡ none
  full-clash (full k) l = refl
  full-clash (clashes k a) l = absurd (omega arith)
  full-clash (lacks k a r) l = refl
  full-clash (fits k a r) l = refl

  -- with fewer the first that clashes with the base
  adds-clash : {o : Outcome AddedSnap} → Adds n m x h o → length h.snaps < 100
      → clash_of o (base_of x h).snap x.snap ≡ key_int (first_clash (base_of x h).snap x.snap)
  adds-clash (full k) l = absurd (omega arith)
  adds-clash (clashes k a) l = refl
  adds-clash (lacks k a r) l = rw (alike-clash _ _ a)
  adds-clash (fits k a r) l = rw (alike-clash _ _ a)

  -- 10 means that the table clashes with the base
  adds-10 : {o : Outcome AddedSnap} (w : Counts) → Adds n m x h o → o ≡ err delta_differing_sizes w
      → (length h.snaps < 100) × (alike (base_of x h).snap x.snap ≡ false)
  adds-10 w (full k) e = let z : store_full ≡ delta_differing_sizes = cc in absurd (omega arith)
  adds-10 w (clashes k a) e = (k, a)
  adds-10 w (lacks k a r) e = let z : capacity_error ≡ delta_differing_sizes = cc in absurd (omega arith)
  adds-10 w (fits k a r) e = absurd (ok-not-err e)

module _ (s : Store) (area : List ℤ) (tick : ℤ) (table delta : List ℤ) where
  abbrev new : Table → StoredSnap
  new t = record { tick = tick; snap = t }

  -- without a store and a table in form no key is told
  pub add-unformed : (storage_of s area ≡ none) ⊎ (table_of table ≡ none) → add_snap_clash s area tick table delta ≡ none
  add-unformed e = go (storage_of s area)
    where
      go : (o : Option Storage) → clash_with (add_snap_call s area tick table delta).answer (new (items table)) o ≡ none
      go none = refl
      go (some h) = rw (add-47 s area tick table delta e)

  module _ (h : Storage) (t : Table) (e : storage_of s area ≡ some h) (f : table_of table ≡ some t) where
    -- the outcome of adding
    abbrev outcome : Outcome AddedSnap
    outcome = adding (length area) (length delta) (new t) h

    adds : Adds (length area) (length delta) (new t) h outcome
    adds = adding-is (length area) (length delta) (new t) h

    -- the answer to it
    abbrev answer : Outcome Added
    answer =
        (add_step (laid_out area (added_to (new t) h outcome)) (added_to (new t) h outcome).answer delta).answer

    answer-is : (add_snap_call s area tick table delta).answer ≡ answer
    unfolding adding_to add_snap
    answer-is = ap (λ (k : AddStep). k.answer) (add-held s area tick table delta h t e f)

    -- a refusal is that of adding
    outcome-is : (w : Counts) (n : ℕ) → (add_snap_call s area tick table delta).answer ≡ err n w → outcome ≡ err n w
    outcome-is w n a =
        added-err (new t) h outcome n w
        (step-err (laid_out area (added_to (new t) h outcome)) (added_to (new t) h outcome).answer delta n w (sym answer-is ∙ a))

    -- the key is that of the outcome
    outcome-clash : add_snap_clash s area tick table delta ≡ clash_of outcome (base_of (new t) h).snap t
    outcome-clash =
        rw (e, (holds table t f).1, answer-is)
        (step-clash (laid_out area (added_to (new t) h outcome)) (added_to (new t) h outcome).answer delta _ t
        ∙ added-clash (new t) h outcome _ t)

    -- with 100 tables held no key is told
    pub add-full : 100 ≤ length h.snaps → add_snap_clash s area tick table delta ≡ none
    add-full l = outcome-clash ∙ full-clash adds l

    -- with fewer the first that clashes with the base
    pub add_is : length h.snaps < 100 → add_snap_clash s area tick table delta ≡ key_int (first_clash (base_of (new t) h).snap t)
    add_is l = outcome-clash ∙ adds-clash adds l

    -- which making the delta from the base would tell
    pub add-as-create : (base out : List ℤ) → length h.snaps < 100 → table_of base ≡ some (base_of (new t) h).snap
        → add_snap_clash s area tick table delta ≡ create_clash base table out
    add-as-create base out l g = add_is l ∙ sym (create-is base table out _ t g f)

  -- a key is told with 10 alone, and it is the first
  pub add-told : (k : ℤ) → add_snap_clash s area tick table delta ≡ some k
      → Told (add_snap_call s area tick table delta).answer (base_in (new (items table)) (storage_of s area)) (table_of table) k
  add-told k e = go (storage_of s area) (table_of table) refl refl
    where
      go : (o : Option Storage) (p : Option Table) → storage_of s area ≡ o → table_of table ≡ p
          → Told (add_snap_call s area tick table delta).answer (base_in (new (items table)) (storage_of s area)) (table_of table) k
      go none p f g = not-told (add-unformed (inl f)) e
      go (some h) none f g = not-told (add-unformed (inr g)) e
      go (some h) (some t) f g =
          let c : clash_of (add_snap_call s area tick table delta).answer (base_of (new (items table)) h).snap (items table) ≡ some k = rw f at e in
          let a = key-10 (add_snap_call s area tick table delta).answer _ _ k c in
          record {
            from = (base_of (new t) h).snap;
            to = t;
            warnings = a.0;
            from_is = rw (f, (holds table t g).1);
            to_is = g;
            answer-is = a.1;
            first =
                ⊎_elim
                (λ (l : length h.snaps < 100). told-first _ t k (facts t (soundly table t g).1).rises (sym (add_is h t f g l) ∙ e))
                (λ (l : 100 ≤ length h.snaps). not-told (add-full h t f g l) e)
                (below (length h.snaps) 100);
          }

  -- 10 comes with a key
  pub add-tells : (w : Counts) → (add_snap_call s area tick table delta).answer ≡ err delta_differing_sizes w
      → (k : ℤ) × (add_snap_clash s area tick table delta ≡ some k)
  add-tells w a = go (storage_of s area) (table_of table) refl refl
    where
      go : (o : Option Storage) (p : Option Table) → storage_of s area ≡ o → table_of table ≡ p → (k : ℤ) × (add_snap_clash s area tick table delta ≡ some k)
      go none p f g = absurd (unformed-10 w a (ap (λ (k : AddStep). k.answer) (add-47 s area tick table delta (inl f))))
      go (some h) none f g = absurd (unformed-10 w a (ap (λ (k : AddStep). k.answer) (add-47 s area tick table delta (inr g))))
      go (some h) (some t) f g =
          let n = adds-10 w (adds h t f g) (outcome-is h t f g w delta_differing_sizes a) in
          let k = unlike-told (base_of (new t) h).snap t n.1 in
          (k.0, add_is h t f g n.0 ∙ k.1)
