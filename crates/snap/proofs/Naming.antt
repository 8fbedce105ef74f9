-- Kinds by their four ints, the numbers of kinds, and raw types. Assumes nothing.
use mathlib.Core.Path.{◌≡◌, refl, sym, ap, ◌∙◌}
use mathlib.Core.Bool.{Bool, true, false, cond, ◌&&◌}
use mathlib.Core.List.{List, [], ◌∷◌}
use mathlib.Core.Logic.{⊎_elim}
use mathlib.Core.Option.{some, none}
use Prim.Native.Nat.{ℕ, suc, ◌+◌, ◌-◌, ◌/◌, ◌%◌, ◌≤◌, ◌<◌}
use native.Mathlib.Numerals.{add-one}
use native.Mathlib.Omega.{arith}
use borrow.Author.Tests.{eq-eqb, ne_eqb, eqb-true, lt-ltb, le-ltb, le-leb, lt-leb}
use lib.Dec.{eqb, ltb}
use Rattle.std.specs.Prelude.{Ok, Option, Some, None}
use lib.IntN.{ℤ, pos}
use lib.ListN.{length, get_or, take}
use Rattle.definitions.specs.Ints.{bits}
use Rattle.definitions.specs.Refusals.{invalid_type_id}
use Rattle.definitions.specs.Outcome.{return, refuse}
use Rattle.definitions.specs.Tables.{Item, Table, key_of, values_at, find, is_some}
use Rattle.definitions.specs.Types.{Ordinal, Uuid, same_ints, kind_number, judge_type_id, raw_type_id, type_id}
use Rattle.laws.specs.Tests.{below}
use Rattle.laws.specs.TableShape.{both}
use Rattle.table.specs.Held.{data_in}
use Rattle.types.specs.Picks.{seg}
use Rattle.snap.specs.Answers.{number_in, names_kind, raw_type, raw_type_in}

-- ---- the first four ints

-- the i-th int of some data
abbrev at : List ℤ → ℕ → ℤ
at v i = get_or v i (pos 0)

pub take-four : (v : List ℤ) → 4 ≤ length v → take 4 v ≡ at v 0 ∷ at v 1 ∷ at v 2 ∷ at v 3 ∷ []
take-four [] h = absurd (omega arith)
take-four (a ∷ []) h = absurd (omega arith)
take-four (a ∷ b ∷ []) h = absurd (omega arith)
take-four (a ∷ b ∷ c ∷ []) h = absurd (omega arith)
take-four (a ∷ b ∷ c ∷ d ∷ v) h = refl

-- two tests of which the second fails
and-fails : (x y : Bool) → y ≡ false → (x && y) ≡ false
and-fails true y e = e
and-fails false y e = refl

pub short-names : (v : List ℤ) (a b c d : ℤ) → length v < 4 → false ≡ same_ints (take 4 v) (a ∷ b ∷ c ∷ d ∷ [])
unfolding same_ints
short-names [] a b c d h = refl
short-names (x ∷ []) a b c d h = sym (and-fails (eqb (bits x) (bits a)) false refl)
short-names (x ∷ y ∷ []) a b c d h = sym (and-fails (eqb (bits x) (bits a)) (eqb (bits y) (bits b) && false) (and-fails (eqb (bits y) (bits b)) false refl))
short-names (x ∷ y ∷ z ∷ []) a b c d h =
    sym (and-fails (eqb (bits x) (bits a)) (eqb (bits y) (bits b) && (eqb (bits z) (bits c) && false))
    (and-fails (eqb (bits y) (bits b)) (eqb (bits z) (bits c) && false) (and-fails (eqb (bits z) (bits c)) false refl)))
short-names (x ∷ y ∷ z ∷ w ∷ v) a b c d h = absurd (omega arith)

module _ (v : List ℤ) (a b c d : ℤ) (h : 4 ≤ length v) where
  and-true-last : (x : Bool) → (x && true) ≡ x
  and-true-last true = refl
  and-true-last false = refl

  four : same_ints (take 4 v) (a ∷ b ∷ c ∷ d ∷ []) ≡ (eqb (bits (at v 0)) (bits a) && (eqb (bits (at v 1)) (bits b) && (eqb (bits (at v 2)) (bits c) && eqb (bits (at v 3)) (bits d))))
  four = ap (λ (k : List ℤ). same_ints k (a ∷ b ∷ c ∷ d ∷ [])) (take-four v h) ∙ unfold same_ints in rw (and-true-last (eqb (bits (at v 3)) (bits d)))

-- four tests in a row
in_a_row : (p q r s : Bool) → (((p && q) && r) && s) ≡ (p && (q && (r && s)))
in_a_row true true r s = refl
in_a_row true false r s = refl
in_a_row false q r s = refl

-- the result of a test after another one
pub then-is : (x y e : Bool) → (x ≡ true → y ≡ e) → (x ≡ false → y ≡ false) → y ≡ (x && e)
then-is true y e t f = t refl
then-is false y e t f = f refl

-- a test of the length, and one of each int
pub by-ints : (v : List ℤ) (a b c d : ℤ) (x y z r : Bool) → (4 ≤ length v → x ≡ eqb (bits (at v 0)) (bits a)) → (length v < 4 → x ≡ false)
    → y ≡ (x && eqb (bits (at v 1)) (bits b)) → z ≡ (y && eqb (bits (at v 2)) (bits c)) → r ≡ (z && eqb (bits (at v 3)) (bits d))
    → r ≡ same_ints (take 4 v) (a ∷ b ∷ c ∷ d ∷ [])
by-ints v a b c d x y z r long short f g h =
    ⊎_elim
    (λ (l : length v < 4). all ∙ rw (short l) (short-names v a b c d l))
    (λ (l : 4 ≤ length v). all ∙ rw (long l) (in_a_row (eqb (bits (at v 0)) (bits a)) (eqb (bits (at v 1)) (bits b)) (eqb (bits (at v 2)) (bits c)) (eqb (bits (at v 3)) (bits d)) ∙ sym (four v a b c d l)))
    (below (length v) 4)
  where
    all : r ≡ (((x && eqb (bits (at v 1)) (bits b)) && eqb (bits (at v 2)) (bits c)) && eqb (bits (at v 3)) (bits d))
    all = h ∙ rw (g, f)

-- ---- the number of a kind

module _ (k : List ℤ) (x : Item) where
  pub other-type : (x.key / 65536 ≡ 0 → ⊥) → false ≡ names_kind k x
  unfolding names_kind
  other-type n = rw (ne_eqb (x.key / 65536) 0 n)

  pub type-zero : x.key / 65536 ≡ 0 → (r : Bool) → r ≡ same_ints (take 4 x.values) k → r ≡ names_kind k x
  unfolding names_kind
  type-zero e r q = q ∙ rw (eq-eqb (x.key / 65536) 0 e)

  pub named-type : names_kind k x ≡ true → x.key / 65536 ≡ 0
  unfolding names_kind
  named-type e = eqb-true (x.key / 65536) 0 (both (eqb (x.key / 65536) 0) _ e).0

module _ (k : List ℤ) (f : ℕ → Item) (n j : ℕ) where
  number_step : j < n → kind_number k (seg f j (n - j)) ≡ cond (names_kind k (f j)) (some (f j).key) (kind_number k (seg f (j + 1) (n - (j + 1))))
  number_step h =
      let e : n - j ≡ suc (n - (j + 1)) = omega arith in
      rw e (unfold kind_number names_kind in rw (add-one j))

  -- item j names the kind
  pub number-here : j < n → names_kind k (f j) ≡ true → (r : ℕ) → r ≡ (f j).key % 65536 → kind_number k (seg f j (n - j)) ≡ some r
  number-here h e r q =
      let z = named-type k (f j) e in
      let w : r ≡ (f j).key = omega (arith, z) in
      number_step h ∙ rw (e, w)

  pub number-on : j < n → names_kind k (f j) ≡ false → kind_number k (seg f j (n - j)) ≡ kind_number k (seg f (j + 1) (n - (j + 1)))
  number-on h e = number_step h ∙ rw e

  pub number-none : n ≤ j → kind_number k (seg f j (n - j)) ≡ none
  number-none h = let e : n - j ≡ 0 = omega arith in rw e (unfold kind_number in refl)

-- ---- the raw type of a type

module _ (t : Table) where
  pub ordinal-zero : (n : ℕ) → n ≡ 0 → raw_type_in t (Ordinal n) ≡ refuse invalid_type_id
  unfolding judge_type_id
  ordinal-zero n e = rw (le-ltb 0 n (omega arith))

  pub ordinal-high : (n : ℕ) → 16384 ≤ n → raw_type_in t (Ordinal n) ≡ refuse invalid_type_id
  unfolding judge_type_id
  ordinal-high n h = rw (lt-ltb 0 n (omega arith), le-ltb n 16384 h)

  pub ordinal-is : (n : ℕ) → (n ≡ 0 → ⊥) → n < 16384 → raw_type_in t (Ordinal n) ≡ return (some n)
  unfolding judge_type_id raw_type_id
  ordinal-is n d h = rw (lt-ltb 0 n (omega arith), lt-ltb n 16384 h)

  pub uuid-is : (k : List ℤ) (r : Option ℕ) → kind_number k t ≡ number_in r → raw_type_in t (Uuid k) ≡ raw_type (Ok r)
  unfolding judge_type_id raw_type_id
  uuid-is k (Some r) e = rw e
  uuid-is k None e = rw e

-- ---- the type of a raw type

module _ (t : Table) (n : ℕ) where
  pub none-zero : n ≡ 0 → type_id t n ≡ none
  unfolding type_id
  none-zero e = rw (eq-eqb n 0 e)

  module _ (d : n ≡ 0 → ⊥) where
    pub small-type : n < 16384 → type_id t n ≡ some (Ordinal n)
    unfolding type_id
    small-type h = rw (ne_eqb n 0 d, lt-ltb n 16384 h)

    module _ (h : 16384 ≤ n) where
      pub no-kind-item : find (key_of 0 n) t ≡ none → type_id t n ≡ none
      unfolding type_id
      no-kind-item e = rw (ne_eqb n 0 d, le-ltb n 16384 h, e)

      module _ (v : List ℤ) (e : find (key_of 0 n) t ≡ some v) where
        pub short-kind : length v < 4 → type_id t n ≡ none
        unfolding type_id
        short-kind l = rw (ne_eqb n 0 d, le-ltb n 16384 h, e, lt-leb 4 (length v) l)

        pub kind-is : 4 ≤ length v → type_id t n ≡ some (Uuid (at v 0 ∷ at v 1 ∷ at v 2 ∷ at v 3 ∷ []))
        unfolding type_id
        kind-is l = rw (ne_eqb n 0 d, le-ltb n 16384 h, e, le-leb 4 (length v) l, take-four v l)

-- equal ints make equal kinds
pub same_kind : {a b c d a' b' c' d' : ℤ} → a ≡ a' → b ≡ b' → c ≡ c' → d ≡ d' → some (Uuid (a ∷ b ∷ c ∷ d ∷ [])) ≡ some (Uuid (a' ∷ b' ∷ c' ∷ d' ∷ []))
same_kind e f g h = λ i. some (Uuid (e i ∷ f i ∷ g i ∷ h i ∷ []))

-- whether there is a place
pub is-within : (a : List ℤ) (n r : ℕ) → is_some (data_in a n r) ≡ ltb r n
is-within a n r = go (ltb r n)
  where
    go : (b : Bool) → is_some (cond b (some (values_at a r)) none) ≡ b
    go true = refl
    go false = refl

-- what was found at a place
pub found_at : (a : List ℤ) (n r : ℕ) → r < n → data_in a n r ≡ some (values_at a r)
found_at a n r h = rw (lt-ltb r n h)

pub not_found : (a : List ℤ) (n r : ℕ) → n ≤ r → data_in a n r ≡ none
not_found a n r h = rw (le-ltb r n h)
