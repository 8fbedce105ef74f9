-- What a session of a controller and a printer requires of clean tables and their deltas. Assumes nothing.
use Rattle.std.specs.Prelude.{ℕ, ◌<◌, ◌≤◌, ◌≡◌, refl, Bool, true, false, List, [], ◌∷◌, ◌++◌, ℤ, length, eqb}
use Rattle.std.proofs.Common.{sym, ap, ap₂, ◌∙◌, arith, eqb-true}
use Rattle.std.proofs.Math.Option.{some}
use Rattle.definitions.specs.Refusals.{known_size_differs}
use Rattle.definitions.specs.Outcome.{Outcome, return, require, ◌>>=◌, ◌>>◌}
use Rattle.definitions.specs.Packed.{pack_ints}
use Rattle.definitions.specs.Stream.{stream}
use Rattle.definitions.specs.Tables.{Item, Table}
use Rattle.definitions.specs.Deltas.{Delta, is_empty_delta, delta_ints, written_delta, delta_of}
use Rattle.definitions.specs.DeltaMaking.{delta_from, create_delta}
use Rattle.definitions.specs.DeltaCalls.{sizes_match}
use Rattle.definitions.specs.DeltaReading.{read_delta}
use Rattle.definitions.specs.Applying.{apply_delta}
use Rattle.definitions.specs.Types.{typed}
use Rattle.definitions.specs.Manager.{empty_delta}
use Rattle.laws.specs.OutcomeLaws.{ok-value, ok-not-err, return-bind}
use Rattle.laws.specs.TableShape.{both}
use Rattle.laws.specs.DeltaLaws.{delta-packs, empty-packs}
use Rattle.laws.specs.DeltaReadBack.{read_back}
use Rattle.laws.specs.DeltaMade.{made-short, made_held}
use Rattle.laws.specs.ApplyEmpty.{apply-empty}
use Rattle.laws.specs.ApplyMade.{created, apply-created}
use Rattle.laws.specs.DeltaWhole.{made-read-packed}
use Rattle.laws.specs.Clean.{Clean, empty-clean}

-- ---- applying, with types

-- a delta made between two clean tables leads from the first to the second, whose types are not refused
pub apply-create-typed : (b t : Table) (d : Delta) → Clean b → Clean t → create_delta b t ≡ return d → (apply_delta b d >>= typed) ≡ return t
apply-create-typed b t d hb ht e =
    ap (λ (o : Outcome Table). o >>= typed)
    (apply-created b t d hb.is-sound ht.is-sound hb.whole ht.whole e)
    ∙ (return-bind t typed ∙ ht.types)

-- the empty delta leaves a clean table
pub apply-empty-typed : (b : Table) → Clean b → (apply_delta b empty_delta >>= typed) ≡ return b
apply-empty-typed b hb =
    ap (λ (o : Outcome Table). o >>= typed) (apply-empty b) ∙ (return-bind b typed ∙ hb.types)

-- ---- packing

-- a delta packed under known sizes, which must be those of its updates
abbrev pub pack_delta : List ℤ → Delta → Outcome (List ℕ)
pack_delta sizes d =
    require (sizes_match sizes d.updated) known_size_differs >> return (pack_ints (delta_ints sizes d))

-- what packing says
pub was-packed : (sizes : List ℤ) (d : Delta) (x : List ℕ) → pack_delta sizes d ≡ return x → (sizes_match sizes d.updated ≡ true) × (pack_ints (delta_ints sizes d) ≡ x)
was-packed sizes d x e = go (sizes_match sizes d.updated) e
  where
    go : (p : Bool) → (require p known_size_differs >> return (pack_ints (delta_ints sizes d))) ≡ return x → (p ≡ true) × (pack_ints (delta_ints sizes d) ≡ x)
    go true q = (refl, ok-value q)
    go false q = absurd (ok-not-err (sym q))

-- a delta without keys and updates is the empty one
pub empty-is : (d : Delta) → is_empty_delta d ≡ true → d ≡ empty_delta
empty-is d e =
    let p = both (eqb (length d.deleted) 0) _ e in
    ap₂ (λ (l : List ℕ) (u : List Item). record { deleted = l; updated = u })
    (no-entries d.deleted (eqb-true _ _ p.0))
    (no-entries d.updated (eqb-true _ _ p.1))
  where
    no-entries : {A : Type 0} (l : List A) → length l ≡ 0 → l ≡ []
    no-entries [] q = refl
    no-entries (x ∷ l) q = absurd (omega arith)

-- a packed delta is not empty
packed-some : (sizes : List ℤ) (d : Delta) (x : List ℕ) → pack_delta sizes d ≡ return x → 0 < length x
packed-some sizes d x e = rw (← (was-packed sizes d x e).1) (omega (arith, delta-packs sizes d))

-- the empty delta fits one message
empty-short : (sizes : List ℤ) (x : List ℕ) → pack_delta sizes empty_delta ≡ return x → length x ≤ 900
empty-short sizes x e =
    let n : length (pack_ints (delta_ints sizes empty_delta)) ≡ 3 = ap length (empty-packs sizes) in
    let m : length (pack_ints (delta_ints sizes empty_delta)) ≡ length x = ap length (was-packed sizes empty_delta x e).1 in
    omega arith

module _ (b t : Table) (d : Delta) (hb : Clean b) (ht : Clean t) (e : create_delta b t ≡ return d) where
  -- a delta that was made of two clean tables and packed is read back, without a warning
  pub read-packed-delta : (sizes : List ℤ) (x : List ℕ) → pack_delta sizes d ≡ return x → read_delta sizes (stream x) ≡ return (read_back d)
  read-packed-delta sizes x p =
      let c = created b t d e in
      let q = was-packed sizes d x p in
      let m : sizes_match sizes (delta_from b t).updated ≡ true = rw c.1 q.0 in
      let r = made-read-packed b t hb.is-sound ht.is-sound ht.whole c.0 sizes m in
      rw (← q.1, ← c.1) r

  -- an area of 18,433 ints has room for it
  pub created-short : length (written_delta d) ≤ 18433
  created-short = let c = created b t d e in rw (← c.1) (made-short b t hb.is-sound ht.is-sound c.0)

  -- an area that begins with it holds it
  pub created-held : (rest : List ℤ) → delta_of (written_delta d ++ rest) ≡ some d
  created-held rest = let c = created b t d e in rw (← c.1) (made_held b t hb.is-sound ht.is-sound rest c.0)

-- ---- the laws of a session under known sizes

-- the seven of them
pub record SessionLaws (sizes : List ℤ) : Type 0 where
  -- the empty table is clean
  pub sound_empty : Clean []
  -- what was packed is read back
  pub read-pack : (b t : Table) (d : Delta) (x : List ℕ) → Clean b → Clean t → create_delta b t ≡ return d → pack_delta sizes d ≡ return x → read_delta sizes (stream x) ≡ return (read_back d)
  -- what was created leads to the target
  pub apply-create : (b t : Table) (d : Delta) → Clean b → Clean t → create_delta b t ≡ return d → (apply_delta b d >>= typed) ≡ return t
  -- the empty delta leaves its base
  pub apply-clear : (b : Table) → Clean b → (apply_delta b empty_delta >>= typed) ≡ return b
  -- no delta is packed into no bytes
  pub pack-some : (d : Delta) (x : List ℕ) → pack_delta sizes d ≡ return x → 0 < length x
  -- a delta that changes nothing is the empty one
  pub clear-is : (d : Delta) → is_empty_delta d ≡ true → d ≡ empty_delta
  -- the empty delta fits one message
  pub clear-short : (x : List ℕ) → pack_delta sizes empty_delta ≡ return x → length x ≤ 900

-- they hold
pub session-laws : (sizes : List ℤ) → SessionLaws sizes
session-laws sizes =
    record {
      sound_empty = empty-clean;
      read-pack = λ b t d x hb ht e p. read-packed-delta b t d hb ht e sizes x p;
      apply-create = apply-create-typed;
      apply-clear = apply-empty-typed;
      pack-some = packed-some sizes;
      clear-is = empty-is;
      clear-short = empty-short sizes;
    }
