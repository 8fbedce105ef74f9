-- Tables whose types are sound: each kind is named once, by four ints, and each type from 4000 hex on has its item. Assumes nothing.
use Rattle.std.specs.Prelude.{ℕ, ◌<◌, ◌≤◌, ◌≡◌, Bool, cond, not, ◌||◌, ℤ, length, take, ltb, eqb}
use Rattle.std.proofs.Math.Path.{refl, sym}
use Rattle.std.proofs.Common.{ap, ◌∙◌, subst}
use Rattle.std.proofs.Math.Bool.{true, false, true≢false}
use mathlib.Core.List.{List, [], ◌∷◌, ◌++◌}
use Rattle.std.proofs.Math.Option.{some}
use native.Mathlib.Omega.{arith}
use borrow.Author.Tests.{le-ltb, le-leb, ne_eqb}
use Rattle.definitions.specs.Refusals.{duplicate_uuid_type, missing_uuid_type}
use Rattle.definitions.specs.Warnings.{Counts}
use Rattle.definitions.specs.Outcome.{Outcome, ok, err, return, require, after, ◌>>=◌, ◌>>◌}
use Rattle.definitions.specs.Tables.{Item, Table, key_of, find, is_some, insert, walk}
use Rattle.definitions.specs.Types.{type_of, has_kind, kind_named, judge_types, typed}
use Rattle.definitions.specs.Builder.{is_ok}
use Rattle.laws.specs.TableChanged.{find-insert}
use Rattle.laws.specs.TableEach.{Each, no_more, one, each-walk, elem-found, elem-walk}
use Rattle.laws.specs.KindLaws.{same_ints-swap, names_kind, kind-below, kinds_in, kinds_in-walk, Unlike}

-- ---- what sound types are

-- an item that names a kind has four ints; another has a type below 4000 hex, or one that an item of the table names
pub data Sane (t : Table) (x : Item) : Type 0 where
  kind : names_kind x ≡ true → length x.values ≡ 4 → Sane t x
  plain : names_kind x ≡ false → (ltb (type_of x) 16384 || is_some (find (key_of 0 (type_of x)) t)) ≡ true → Sane t x

-- kinds one after the other, of which none is among those before
abbrev pub Distinct : List (List ℤ) → List (List ℤ) → Type 0
Distinct kinds [] = Unit {0}
Distinct kinds (k ∷ l) = (has_kind (take 4 k) kinds ≡ false) × Distinct (take 4 k ∷ kinds) l

-- the types of some items are sound
pub judged : (t : Table) (kinds : List (List ℤ)) {l : List Item} → Each (Sane t) l → Distinct kinds (kinds_in l) → judge_types t kinds l ≡ return tt
unfolding judge_types kinds_in
judged t kinds no_more d = refl
judged t kinds (one {x} {t = l} (kind e n) r) d =
    let c : Distinct kinds (x.values ∷ kinds_in l) = rw e at d in
    rw (e, named x.values n, c.0, judged t (take 4 x.values ∷ kinds) r c.1)
  where
    named : (v : List ℤ) → length v ≡ 4 → kind_named v ≡ return (take 4 v)
    named v m = unfold kind_named in rw (le-ltb 4 (length v) (omega arith), le-leb 4 (length v) (omega arith))
judged t kinds (one {x} {t = l} (plain e n) r) d =
    let c : Distinct kinds (kinds_in l) = rw e at d in
    rw (e, n, judged t kinds r c)

-- the types of a table are, where its items and kinds are
pub types-judged : (t : Table) → Each (Sane t) t → Distinct [] (kinds_in t) → typed t ≡ return t
unfolding typed
types-judged t e d =
    let c : Distinct [] (kinds_in (walk t)) = subst (Distinct []) (sym (kinds_in-walk t)) d in
    rw (judged t [] (each-walk (Sane t) e) c)

-- ---- an item more

module _ {P Q : Item → Type 0} where
  -- of every item, what follows from what holds of it
  pub each_map : ((x : Item) → P x → Q x) → {t : Table} → Each P t → Each Q t
  each_map f no_more = no_more
  each_map f (one {x} p r) = one (f x p) (each_map f r)

-- of one item more
pub each-insert : (P : Item → Type 0) (i : Item) {t : Table} → P i → Each P t → Each P (insert i t)
unfolding insert
each-insert P i p no_more = one p no_more
each-insert P i p (one {x} {t} q r) = go (ltb i.key x.key) (each-insert P i p r)
  where
    go : (b : Bool) → Each P (insert i t) → Each P (cond b (i ∷ x ∷ t) (x ∷ insert i t))
    go true h = one p (one q r)
    go false h = one q h

-- what is found is found with a new item
found-insert : (i : Item) (t : Table) (j : ℕ) → is_some (find i.key t) ≡ false → is_some (find j t) ≡ true → is_some (find j (insert i t)) ≡ true
found-insert i t j n e = ap is_some (find-insert i t n j) ∙ go (eqb i.key j)
  where
    go : (p : Bool) → is_some (cond p (some i.values) (find j t)) ≡ true
    go true = refl
    go false = e

-- what is sane stays so with a new item
pub still-sane : (i : Item) (t : Table) → is_some (find i.key t) ≡ false → (x : Item) → Sane t x → Sane (insert i t) x
still-sane i t n x (kind e l) = kind e l
still-sane i t n x (plain e l) = plain e (go (ltb (type_of x) 16384) (is_some (find (key_of 0 (type_of x)) t)) refl l)
  where
    go : (p q : Bool) → is_some (find (key_of 0 (type_of x)) t) ≡ q → (p || q) ≡ true → (p || is_some (find (key_of 0 (type_of x)) (insert i t))) ≡ true
    go true q f m = refl
    go false true f m = found-insert i t (key_of 0 (type_of x)) n f
    go false false f m = absurd (true≢false (sym m))

-- one kind more, unlike those before it
pub distinct_more : (kinds l : List (List ℤ)) (k : List ℤ) → take 4 k ≡ k → Distinct kinds l → has_kind k kinds ≡ false → Unlike k l → Distinct kinds (l ++ k ∷ [])
distinct_more kinds [] k e d h u = (rw e h, tt)
distinct_more kinds (x ∷ l) k e d h u =
    (d.0, distinct_more (take 4 x ∷ kinds) l k e d.1 (unfold has_kind in rw (same_ints-swap k (take 4 x), u.0) h) u.1)

-- ---- a type that no item names

module _ {B : Type 0} where
  -- earlier warnings refuse nothing
  still-ok : (w : Counts) (o : Outcome B) → is_ok (after w o) ≡ is_ok o
  still-ok w (ok b v) = refl
  still-ok w (err n v) = refl

  -- if two steps together are not refused, neither is
  both_ok : {A : Type 0} (o : Outcome A) (p : Outcome B) → is_ok (o >> p) ≡ true → (is_ok o ≡ true) × (is_ok p ≡ true)
  both_ok (ok a w) p e = (refl, sym (still-ok w p) ∙ e)
  both_ok (err n w) p e = absurd (true≢false (sym e))

  -- nor is the second, where it takes what the first gives
  next-ok : {A : Type 0} (o : Outcome A) (f : A → Outcome B) → is_ok (o >>= f) ≡ true → (a : A) × (is_ok (f a) ≡ true)
  next-ok (ok a w) f e = (a, sym (still-ok w (f a)) ∙ e)
  next-ok (err n w) f e = absurd (true≢false (sym e))

module _ (t : Table) (n id : ℕ) (l : 16384 ≤ n) (b : id < 65536) (u : is_some (find (key_of 0 n) t) ≡ false) where
  -- then none of some items that were judged is of the type
  none-judged : (kinds : List (List ℤ)) (xs : List Item) → is_ok (judge_types t kinds xs) ≡ true → is_some (find (key_of n id) xs) ≡ false
  unfolding judge_types find
  none-judged kinds [] e = refl
  none-judged kinds (x ∷ xs) e = go (names_kind x) refl e (λ ks d. none-judged ks xs d)
    where
      other : is_ok (require (ltb (type_of x) 16384 || is_some (find (key_of 0 (type_of x)) t)) missing_uuid_type) ≡ true → x.key ≡ key_of n id → ⊥
      other g z =
          let y : type_of x ≡ n = omega arith in
          let f : false ≡ true = rw (y, le-ltb n 16384 l, u) at g in
          true≢false (sym f)

      go : (p : Bool) → names_kind x ≡ p
          → is_ok (cond p
          (kind_named x.values >>= λ k. require (not (has_kind k kinds)) duplicate_uuid_type >> judge_types t (k ∷ kinds) xs)
          (require (ltb (type_of x) 16384 || is_some (find (key_of 0 (type_of x)) t)) missing_uuid_type >> judge_types t kinds xs)) ≡ true
          → ((ks : List (List ℤ)) → is_ok (judge_types t ks xs) ≡ true → is_some (find (key_of n id) xs) ≡ false)
          → is_some (cond (eqb x.key (key_of n id)) (some x.values) (find (key_of n id) xs)) ≡ false
      go true f d h =
          let r = next-ok (kind_named x.values) (λ k. require (not (has_kind k kinds)) duplicate_uuid_type >> judge_types t (k ∷ kinds) xs) d in
          let q = both_ok (require (not (has_kind r.0 kinds)) duplicate_uuid_type) (judge_types t (r.0 ∷ kinds) xs) r.1 in
          rw (ne_eqb x.key (key_of n id) (λ z. omega (arith, kind-below x f))) (h (r.0 ∷ kinds) q.1)
      go false f d h =
          let q = both_ok (require (ltb (type_of x) 16384 || is_some (find (key_of 0 (type_of x)) t)) missing_uuid_type) (judge_types t kinds xs) d in
          rw (ne_eqb x.key (key_of n id) (other q.0)) (h kinds q.1)

  -- nor any of a table whose types are sound
  pub none-of-type : is_ok (typed t) ≡ true → is_some (find (key_of n id) t) ≡ false
  unfolding typed
  none-of-type e =
      sym (sym (elem-found (key_of n id) (walk t)) ∙ elem-walk (key_of n id) t ∙ elem-found (key_of n id) t)
      ∙ none-judged [] (walk t) (both_ok (judge_types t [] (walk t)) (return t) e).0
