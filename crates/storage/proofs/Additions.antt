-- Adding a table, case by case. Assumes nothing.
use mathlib.Core.Path.{◌≡◌, refl, sym, ap, ◌∙◌, subst}
use mathlib.Core.Bool.{Bool, true, false, cond, ◌&&◌}
use mathlib.Core.List.{List, [], ◌∷◌, ◌++◌, append-nil}
use mathlib.Core.Option.{some, none}
use Prim.Native.Nat.{ℕ, ◌+◌, ◌<◌}
use native.Mathlib.Numerals.{add-one}
use native.Mathlib.Omega.{arith}
use borrow.Author.Tests.{lt-ltb, lt-leb}
use lib.Dec.{leb}
use lib.IntN.{ℤ, pos}
use lib.ListN.{length}
use Rattle.definitions.specs.Ints.{from_bits}
use Rattle.definitions.specs.Areas.{lay}
use Rattle.definitions.specs.Refusals.{capacity_error, delta_differing_sizes}
use Rattle.definitions.specs.Warnings as Warnings
use Rattle.definitions.specs.Outcome.{Outcome, ok, err, return, refuse, Wrote}
use Rattle.definitions.specs.Stored.{stored}
use Rattle.definitions.specs.Tables.{Table, items, count, nat, num, written, sound, table_of, body, offsets, rising}
use Rattle.definitions.specs.Deltas.{written_delta}
use Rattle.definitions.specs.DeltaMaking.{alike, first_clash, delta_from, create_delta}
use Rattle.definitions.specs.DeltaCalls.{key_int, clash_of}
use Rattle.definitions.specs.Storage as Store
use Rattle.definitions.specs.StorageCalls as Calls
use Rattle.laws.specs.AreaLaws.{lay-nowhere}
use Rattle.laws.specs.TableShape.{some_is}
use Rattle.laws.specs.TableRoundTrip.{back}
use Rattle.laws.specs.StoreForm.{store_room, LaidIn}
use Rattle.laws.specs.DeltaSize.{length-delta_from}
use Rattle.laws.specs.ClashLaws.{unlike-clash}
use Rattle.format.specs.Numbers.{number}
use Rattle.format.specs.declared.Error.{Error}
use Rattle.table.specs.Held.{Held, form_of}
use Rattle.table.specs.Forms.{formed}
use Rattle.laws.specs.CreateLaws.{created_ints}
use Rattle.laws.specs.AddingLaws.{adding_to}
use Rattle.delta_making.specs.Answers.{made_ints, made_clash}
use Rattle.delta_making.specs.declared.MakeError.{MakeError}
use Rattle.delta_making.specs.declared.MakeError.TheVariants.{DifferingSizes, Refused}
use Rattle.ticks.specs.declared.Tick.{Tick}
use Rattle.storage.specs.Answers.{added_in}
use Rattle.std.specs.Prelude.{Err, Ok, Result}
use Rattle.storage.specs.Steps.{making, added_of, store_after, tables_after}

module _ (s : Store.Store) (l : List Store.StoredSnap) (x : Store.StoredSnap) (base : Tick) (n : ℕ) where
  -- what a delta that was not made leaves
  refused-by : (m : Result ℕ MakeError) → err n Warnings.none ≡ made_ints m → (err n Warnings.none ≡ added_in (added_of base m)) × (s ≡ store_after s m) × (tables_after l x m ≡ l)
  refused-by (Ok k) e = let z : ◌≡◌ {A = ℕ} 0 1 = cc in absurd (omega arith)
  refused-by (Err (DifferingSizes k)) e = let d : n ≡ delta_differing_sizes = cc in (ap refuse d, refl, refl)
  refused-by (Err (Refused k)) e = let d : n ≡ number k = cc in (ap refuse d, refl, refl)

  -- what one that was made does
  made_by : (m : Result ℕ MakeError) → ok n Warnings.none ≡ made_ints m
      → (return (record { base = base.0; ints = n }) ≡ added_in (added_of base m)) × (record { count = s.count + 1; ack_tick = s.ack_tick; delta_tick = s.delta_tick } ≡ store_after s m) × (tables_after l x m ≡ x ∷ l)
  made_by (Ok k) e = let d : n ≡ k = cc in (ap (λ (i : ℕ). return (record { base = base.0; ints = i })) d, refl, refl)
  made_by (Err (DifferingSizes k)) e = let z : ◌≡◌ {A = ℕ} 0 1 = cc in absurd (omega arith)
  made_by (Err (Refused k)) e = let z : ◌≡◌ {A = ℕ} 0 1 = cc in absurd (omega arith)

module _ (h : Store.Storage) (x : Store.StoredSnap) (a delta : List ℤ) (few : length h.snaps < 100) where
  -- the base
  abbrev B : Store.StoredSnap
  B = Store.chosen_base h.delta_tick x h.snaps

  -- the ints of the delta
  abbrev D : List ℤ
  D = written_delta (delta_from B.snap x.snap)

  -- whether the store has room for the table
  abbrev Room : Bool
  Room = leb (store_room (x ∷ h.snaps)) (length a)

  module _ (area : List ℤ) where
    -- the call as a whole
    abbrev Comes : Outcome Calls.Added → Store.Store → List ℤ → Type 0
    Comes o s d = adding_to h x a delta ≡ record { answer = o; store = s; area = area; delta = d }

    -- the tables do not agree
    adding-10 : alike B.snap x.snap ≡ false → LaidIn (length a) h.snaps area → Comes (refuse delta_differing_sizes) (Store.beside h) delta
    unfolding adding_to Store.add_snap Store.adding create_delta Calls.add_step
    adding-10 e o = rw (lt-ltb (length h.snaps) 100 few, e, o)

    -- there is no room
    adding-40 : alike B.snap x.snap ≡ true → (Room && leb (length D) (length delta)) ≡ false → LaidIn (length a) h.snaps area
        → Comes (refuse capacity_error) (Store.beside h) delta
    unfolding adding_to Store.add_snap Store.adding create_delta Calls.add_step
    adding-40 e f o = rw (lt-ltb (length h.snaps) 100 few, e, f, o)

    -- there is
    adding-done : alike B.snap x.snap ≡ true → (Room && leb (length D) (length delta)) ≡ true → LaidIn (length a) (x ∷ h.snaps) area
        → Comes (return (record { base = B.tick; ints = length D })) (record { count = length h.snaps + 1; ack_tick = h.ack_tick; delta_tick = h.delta_tick }) (lay D delta)
    unfolding adding_to Store.add_snap Store.adding create_delta Calls.add_step
    adding-done e f o = rw (lt-ltb (length h.snaps) 100 few, e, f, o, add-one (length h.snaps))

  module _ (room : Bool) (rm : room ≡ Room) (m : Result ℕ MakeError) (out : List ℤ)
      (e : making room delta (created_ints B.snap x.snap) ≡ record { answer = made_ints m; out = out }) (area : List ℤ)
      (laid : LaidIn (length a) (tables_after h.snaps x m) area) (base : Tick) (at : base.0 ≡ B.tick) where
    -- the result of the call, by what was made
    abbrev Then : Type 0
    Then = Comes area (added_in (added_of base m)) (store_after (Store.beside h) m) out

    -- with equal parts
    same-result : (o : Outcome Calls.Added) (s : Store.Store) (d : List ℤ) → o ≡ added_in (added_of base m) → s ≡ store_after (Store.beside h) m
        → d ≡ out → Comes area o s d → Then
    same-result o s d p q r c = c ∙ rw (p, q, r)

    -- refused
    refused : (n : ℕ) → (LaidIn (length a) h.snaps area → Comes area (refuse n) (Store.beside h) delta)
        → ◌≡◌ {A = Wrote ℕ ℤ} (record { answer = refuse n; out = delta }) (record { answer = made_ints m; out = out }) → Then
    refused n c f =
        let r = refused-by (Store.beside h) h.snaps x base n m (ap (λ (w : Wrote ℕ ℤ). w.answer) f) in
        same-result _ _ _ r.0 r.1 (ap (λ (w : Wrote ℕ ℤ). w.out) f) (c (rw r.2 at laid))

    -- by whether the tables agree, and by the room
    by_alike : (b c : Bool) → alike B.snap x.snap ≡ b → (Room && leb (length D) (length delta)) ≡ c → Then
    unfolding making create_delta
    by_alike false c p q = refused delta_differing_sizes (adding-10 area p) (rw p at e)
    by_alike true false p q = refused capacity_error (adding-40 area p q) (rw (p, rm, q) at e)
    by_alike true true p q =
        let f : ◌≡◌ {A = Wrote ℕ ℤ} (record { answer = ok (length D) Warnings.none; out = lay D delta }) (record { answer = made_ints m; out = out }) = rw (p, rm, q) at e in
        let r = made_by (Store.beside h) h.snaps x base (length D) m (ap (λ (w : Wrote ℕ ℤ). w.answer) f) in
        let o = ap (λ (t : ℤ). return (record { base = t; ints = length D })) (sym at) ∙ r.0 in
        same-result _ _ _ o r.1 (ap (λ (w : Wrote ℕ ℤ). w.out) f) (adding-done area p q (rw r.2 at laid))

    -- the result of the call, by the delta that was to be made
    pub added-by : Then
    added-by = by_alike (alike B.snap x.snap) (Room && leb (length D) (length delta)) refl refl

-- ---- whether the delta was made

-- a store without room makes none
pub made-room : (room : Bool) (delta out : List ℤ) (b t : Table) (m : Result ℕ MakeError) (n : ℕ)
    → making room delta (created_ints b t) ≡ record { answer = made_ints m; out = out } → m ≡ Ok n → room ≡ true
unfolding making create_delta
made-room true delta out b t m n e f = refl
made-room false delta out b t m n e f = go (alike b t) refl
  where
    go : (c : Bool) → alike b t ≡ c → false ≡ true
    go true q =
        let g : ◌≡◌ {A = Wrote ℕ ℤ} (record { answer = refuse capacity_error; out = delta }) (record { answer = ok n Warnings.none; out = out }) = rw (q, f) at e in
        let k : refuse capacity_error ≡ ok n Warnings.none = ap (λ (w : Wrote ℕ ℤ). w.answer) g in
        let z : ◌≡◌ {A = ℕ} 0 1 = cc in absurd (omega arith)
    go false q =
        let g : ◌≡◌ {A = Wrote ℕ ℤ} (record { answer = refuse delta_differing_sizes; out = delta }) (record { answer = ok n Warnings.none; out = out }) = rw (q, f) at e in
        let k : refuse delta_differing_sizes ≡ ok n Warnings.none = ap (λ (w : Wrote ℕ ℤ). w.answer) g in
        let z : ◌≡◌ {A = ℕ} 0 1 = cc in absurd (omega arith)

-- with room, it is made as without a store
pub with-room : (room : Bool) (delta : List ℤ) (o : Outcome (List ℤ)) (w : Wrote ℕ ℤ) → room ≡ true → stored delta o ≡ w → making room delta o ≡ w
unfolding stored making
with-room room delta (ok xs u) w e f = rw e f
with-room room delta (err n u) w e f = f

-- ---- a delta that is only judged

-- an area without entries takes nothing
nothing-out : (o : Outcome (List ℤ)) → (stored [] o).out ≡ []
unfolding stored
nothing-out (err n w) = refl
nothing-out (ok xs w) = by (leb (length xs) 0)
  where
    chosen : Bool → Wrote ℕ ℤ
    chosen b = cond b (record { answer = ok (length xs) w; out = lay xs [] }) (record { answer = err capacity_error w; out = [] })

    by : (b : Bool) → (chosen b).out ≡ []
    by true = lay-nowhere xs
    by false = refl

module _ (room : Bool) (r : room ≡ false) (delta out : List ℤ) (b t : Table) (m : Result ℕ MakeError)
    (e : stored [] (created_ints b t) ≡ record { answer = made_ints m; out = out }) where
  -- nothing was written
  out-is : out ≡ []
  out-is = sym (ap (λ (w : Wrote ℕ ℤ). w.out) e) ∙ nothing-out (created_ints b t)

  -- tables that agree
  judged-alike : alike b t ≡ true → refuse capacity_error ≡ made_ints m
  unfolding stored create_delta
  judged-alike q =
      let s : leb (length (written_delta (delta_from b t))) 0 ≡ false = lt-leb (length (written_delta (delta_from b t))) 0 (omega (arith, length-delta_from b t q)) in
      ap (λ (w : Wrote ℕ ℤ). w.answer) (rw (q, s) at e)

  -- tables that do not
  judged-unlike : alike b t ≡ false → refuse delta_differing_sizes ≡ made_ints m
  unfolding stored create_delta
  judged-unlike q = ap (λ (w : Wrote ℕ ℤ). w.answer) (rw q at e)

  -- the same for the call
  making-unlike : alike b t ≡ false → making room delta (created_ints b t) ≡ record { answer = refuse delta_differing_sizes; out = out ++ delta }
  unfolding making create_delta
  making-unlike q = rw (q, out-is)

  -- without room
  making-alike : alike b t ≡ true → making room delta (created_ints b t) ≡ record { answer = refuse capacity_error; out = out ++ delta }
  unfolding making create_delta
  making-alike q = rw (q, r, out-is)

  -- a key that clashes is named
  pub judged-10 : (k : ℤ) → m ≡ Err (DifferingSizes k) → making room delta (created_ints b t) ≡ record { answer = refuse delta_differing_sizes; out = out ++ delta }
  judged-10 k f = go (alike b t) refl
    where
      go : (c : Bool) → alike b t ≡ c → making room delta (created_ints b t) ≡ record { answer = refuse delta_differing_sizes; out = out ++ delta }
      go false q = making-unlike q
      go true q =
          let g : refuse capacity_error ≡ refuse delta_differing_sizes = rw f at (judged-alike q) in
          let z : capacity_error ≡ delta_differing_sizes = cc in absurd (omega arith)

  -- none is made
  pub judged-none : (n : ℕ) → m ≡ Ok n → making room delta (created_ints b t) ≡ record { answer = refuse capacity_error; out = out ++ delta }
  judged-none n f = go (alike b t) refl
    where
      go : (c : Bool) → alike b t ≡ c → making room delta (created_ints b t) ≡ record { answer = refuse capacity_error; out = out ++ delta }
      go true q = making-alike q
      go false q =
          let g : refuse delta_differing_sizes ≡ return n = rw f at (judged-unlike q) in
          let z : ◌≡◌ {A = ℕ} 0 1 = cc in absurd (omega arith)

  -- it is refused, and no key is told
  pub judged-40 : (k : Error) → m ≡ Err (Refused k) → made_clash m ≡ clash_of (made_ints m) b t
      → making room delta (created_ints b t) ≡ record { answer = refuse capacity_error; out = out ++ delta }
  judged-40 k f h = go (alike b t) refl
    where
      go : (c : Bool) → alike b t ≡ c → making room delta (created_ints b t) ≡ record { answer = refuse capacity_error; out = out ++ delta }
      go true q = making-alike q
      go false q =
          let g : refuse delta_differing_sizes ≡ refuse (number k) = rw f at (judged-unlike q) in
          let d : number k ≡ delta_differing_sizes = cc in
          let n : none ≡ clash_of {A = ℕ} (refuse (number k)) b t = rw f at h in
          let n' : none ≡ key_int (first_clash b t) = rw d at n in
          let j = unlike-clash b t q in
          let i : none ≡ some (from_bits j.0) = n' ∙ ap key_int j.1 in
          let z : ◌≡◌ {A = ℕ} 0 1 = cc in absurd (omega arith)

-- ---- the base

-- a table that is the whole of its ints
pub whole-table : (a : List ℤ) (t : Table) → sound t ≡ true → a ≡ written t → Held a (count a) × (items a ≡ t)
whole-table a t s e =
    let k : table_of a ≡ some t = ap table_of (e ∙ sym (append-nil (written t))) ∙ back t [] s in
    let f = formed a (length t) (length (written t)) (sym (ap form_of k)) in
    let h = f.0.shape in
    let i : items a ≡ t = let g : some (items a) ≡ some t = sym (some_is a h) ∙ k in cc in
    (record { count-is = refl; shape = h }, i)

-- the empty table
pub empty-table : Held (pos 0 ∷ pos 0 ∷ []) (count (pos 0 ∷ pos 0 ∷ [])) × (items (pos 0 ∷ pos 0 ∷ []) ≡ [])
unfolding written body offsets sound rising
empty-table = whole-table (pos 0 ∷ pos 0 ∷ []) [] refl refl

-- a delta from a base is one from an equal table
pub by-base : (room : Bool) (delta out : List ℤ) (b c t : Table) (m : Result ℕ MakeError) → b ≡ c
    → (making room delta (created_ints b t) ≡ record { answer = made_ints m; out = out }) × (made_clash m ≡ clash_of (made_ints m) b t)
    → (making room delta (created_ints c t) ≡ record { answer = made_ints m; out = out }) × (made_clash m ≡ clash_of (made_ints m) c t)
by-base room delta out b c t m e h =
    subst (λ (y : Table). (making room delta (created_ints y t) ≡ record { answer = made_ints m; out = out }) × (made_clash m ≡ clash_of (made_ints m) y t)) e h

-- the empty table has no items
pub empty-held : Held (pos 0 ∷ pos 0 ∷ []) 0
unfolding nat num
empty-held = record { count-is = refl; shape = empty-table.0.shape }
