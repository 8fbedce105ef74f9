-- The results of judging kinds, turn by turn, and of the whole walk. Assumes nothing.
use mathlib.Core.Path.{◌≡◌, refl, sym, ap, ◌∙◌}
use mathlib.Core.Bool.{true, false, false≢true}
use Rattle.std.specs.Prelude.{Result, Ok, Err, is_ok}
use mathlib.Core.List.{List, [], ◌∷◌, ◌++◌}
use mathlib.Core.Logic.{⊎_elim}
use Prim.Native.Nat.{ℕ, zero, suc, ◌+◌, ◌-◌, ◌^◌, ◌≤◌, ◌<◌}
use native.Mathlib.Numerals.{add-one}
use native.Mathlib.Omega.{arith}
use lib.Dec.{ltb}
use lib.IntN.{ℤ}
use lib.ListN.{length, take}
use Rattle.definitions.specs.Refusals.{duplicate_uuid_type, invalid_uuid_type, missing_uuid_type}
use Rattle.definitions.specs.Outcome.{Outcome, ok, err, return, after, ◌>>◌}
use Rattle.definitions.specs.Tables.{Item, Table, list, walk}
use Rattle.definitions.specs.Types.{has_kind, judge_types, typed}
use Rattle.definitions.specs.Warnings.{plus}
use Rattle.definitions.specs.Warnings as Warnings
use Rattle.laws.specs.Tests.{below}
use Rattle.laws.specs.WarningLaws.{none-plus, plus_none}
use Rattle.laws.specs.OutcomeLaws.{after_none, after-after}
use Rattle.laws.specs.TableWalk.{walk-list}
use Rattle.laws.specs.ListLaws.{list_ext}
use Rattle.types.specs.Picks.{key_in, item_of, table_in, seg, seg-list, Lower, any_lacks}
use Rattle.format.specs.declared.Error.{Error}
use Rattle.format.specs.Numbers.{number}
use Rattle.format.specs.Sources.{uuid_excess}
use Rattle.types.specs.Answers.{types_with}
use Rattle.types.proofs.Walking.{Plain, lacked, plain, plain-before, plain-behind, one_if, kind-new, kind-again, kind-short}
use Rattle.types.proofs.Naming.{kinds_before}

-- ---- the items of type 0, one by one

module _ (t : Table) (f : ℕ → Item) (z j e : ℕ) where
  -- what remains to be done, after some warnings
  abbrev pub left : Outcome (Unit {0})
  left = after (uuid_excess e) (judge_types t (kinds_before f j) (seg f j (z - j)))

  module _ (l : j < z) (k : (f j).key < 65536) where
    next : z - j ≡ suc (z - (j + 1))
    next = omega arith

    first : left ≡ after (uuid_excess e) (judge_types t (kinds_before f j) (f j ∷ seg f (suc j) (z - (j + 1))))
    first = rw next

    pub turn-new : 4 ≤ length (f j).values → has_kind (take 4 (f j).values) (kinds_before f j) ≡ false → left ≡ after (uuid_excess (e + one_if (ltb 4 (length (f j).values)))) (judge_types t (kinds_before f (j + 1)) (seg f (j + 1) (z - (j + 1))))
    turn-new h d =
        first
        ∙ ap (after (uuid_excess e)) (kind-new t (kinds_before f j) (f j) (seg f (suc j) (z - (j + 1))) k h d)
        ∙ after-after (uuid_excess e) (uuid_excess (one_if (ltb 4 (length (f j).values)))) (judge_types t (kinds_before f (suc j)) (seg f (suc j) (z - (j + 1))))
        ∙ ap (λ (i : ℕ). after (uuid_excess (e + one_if (ltb 4 (length (f j).values)))) (judge_types t (kinds_before f i) (seg f i (z - (j + 1))))) (sym (add-one j))

    pub turn-again : 4 ≤ length (f j).values → has_kind (take 4 (f j).values) (kinds_before f j) ≡ true → left ≡ err duplicate_uuid_type (uuid_excess (e + one_if (ltb 4 (length (f j).values))))
    turn-again h d = first ∙ ap (after (uuid_excess e)) (kind-again t (kinds_before f j) (f j) (seg f (suc j) (z - (j + 1))) k h d)

    pub turn-short : length (f j).values < 4 → left ≡ err invalid_uuid_type (uuid_excess e)
    turn-short h =
        first ∙ ap (after (uuid_excess e)) (kind-short t (kinds_before f j) (f j) (seg f (suc j) (z - (j + 1))) k h)
        ∙ (let q : e + 0 ≡ e = omega arith in ap (λ (i : ℕ). err invalid_uuid_type (uuid_excess i)) q)

  judge-none : (kinds : List (List ℤ)) → judge_types t kinds [] ≡ return tt
  unfolding judge_types
  judge-none kinds = refl

  pub turn-none : z ≤ j → left ≡ ok tt (uuid_excess e)
  turn-none h =
      let q : z - j ≡ 0 = omega arith in
      let r : e + 0 ≡ e = omega arith in
      rw (q, judge-none (kinds_before f j)) (ap {B = Outcome (Unit {0})} (λ (i : ℕ). ok tt (uuid_excess i)) r)

pub left-start : (t : Table) (f : ℕ → Item) (z : ℕ) → left t f z 0 0 ≡ judge_types t [] (seg f 0 z)
left-start t f z = let q : z - 0 ≡ z = omega arith in rw q (after_none (judge_types t [] (seg f 0 z)))

-- ---- parts of a table

module _ (f : ℕ → Item) where
  seg-add : (m i j : ℕ) → seg f m (i + j) ≡ seg f m i ++ seg f (m + i) j
  seg-add m zero j = let e : m + 0 ≡ m = omega arith in let d : 0 + j ≡ j = omega arith in rw (e, d)
  seg-add m (suc i) j =
      let d : suc i + j ≡ suc (i + j) = omega arith in
      let e : m + suc i ≡ suc m + i = omega arith in
      rw (d, e, seg-add (suc m) i j)

  plain-seg : (i k : ℕ) → ((j : ℕ) → i ≤ j → j < i + k → 65536 ≤ (f j).key) → Plain (seg f i k)
  plain-seg i zero h = tt
  plain-seg i (suc k) h = (h i (omega arith) (omega arith), plain-seg (suc i) k (λ j l m. h j (omega arith) (omega arith)))

-- ---- the whole walk

module _ (a : List ℤ) (n : ℕ) (index : List ℕ) (high z : ℕ) (lh : Lower (key_in a index) n (2 ^ 31) high) (lz : Lower (key_in a index) n 65536 z) where
  pub z-low : z ≤ high
  z-low = ⊎_elim (λ (h : high < z). let q : ⊥ = omega (arith, lz.below high h, lh.above high (omega arith) (omega (arith, lz.within))) in absurd q) (λ (h : z ≤ high). h) (below high z)

  abbrev f : ℕ → Item
  f = item_of a index

  abbrev t : Table
  t = table_in a n index

  -- the items of types from 8000 hex up, and those from 1 up
  abbrev late : Table
  late = seg f high (n - high)

  abbrev early : Table
  early = seg f z (high - z)

  walked : walk t ≡ late ++ (seg f 0 z ++ early)
  walked =
      let e : high + (n - high) ≡ n = omega (arith, lh.within) in
      let d : z + (high - z) ≡ high = omega (arith, z-low) in
      ap (λ (k : ℕ). walk (list f k)) (sym e)
      ∙ walk-list f high (n - high) lh.below (λ i h. lh.above (high + i) (omega arith) (omega arith))
      ∙ ap (λ (l : Table). l ++ list f high) (seg-list f high (n - high))
      ∙ ap (λ (l : Table). late ++ l) (list_ext f (λ i. f (0 + i)) high (λ i h. let q : i ≡ 0 + i = omega arith in ap f q) ∙ seg-list f 0 high ∙ ap (seg f 0) (sym d) ∙ seg-add f 0 z (high - z) ∙ (let q : 0 + z ≡ z = omega arith in ap (λ (k : ℕ). seg f 0 z ++ seg f k (high - z)) q))

  typed-is : typed t ≡ (lacked (any_lacks t late) >> (judge_types t [] (seg f 0 z) >> lacked (any_lacks t early)) >> return t)
  typed-is =
      let p = plain-seg f high (n - high) (λ j l h. omega (arith, lh.above j l (omega arith))) in
      let q = plain-seg f z (high - z) (λ j l h. lz.above j l (omega (arith, lh.within))) in
      unfold typed in
      ap (λ (o : Outcome (Unit {0})). o >> return t)
      (ap (judge_types t []) walked
      ∙ plain-before t [] late (seg f 0 z ++ early) p
      ∙ ap (λ (o : Outcome (Unit {0})). o >> judge_types t [] (seg f 0 z ++ early)) (plain t [] late p)
      ∙ ap (λ (o : Outcome (Unit {0})). lacked (any_lacks t late) >> o) (plain-behind t (seg f 0 z) early q []
      ∙ ap (λ (o : Outcome (Unit {0})). judge_types t [] (seg f 0 z) >> o) (plain t [] early q)))

  -- a type from 8000 hex up lacks its kind
  pub first-missing : any_lacks t late ≡ true → typed t ≡ err missing_uuid_type (uuid_excess 0)
  first-missing e = typed-is ∙ rw e

  module _ (e : any_lacks t late ≡ false) where
    -- the items of type 0 are refused
    kinds-refused : (m w : ℕ) → judge_types t [] (seg f 0 z) ≡ err m (uuid_excess w) → typed t ≡ err m (uuid_excess w)
    kinds-refused m w k = typed-is ∙ rw (e, k) (ap (err m) (none-plus (uuid_excess w)))

    module _ (w : ℕ) (k : judge_types t [] (seg f 0 z) ≡ ok tt (uuid_excess w)) where
      -- another type lacks its kind
      later-missing : any_lacks t early ≡ true → typed t ≡ err missing_uuid_type (uuid_excess w)
      later-missing d = typed-is ∙ rw (e, k, d) (ap (err missing_uuid_type) (ap (plus Warnings.none) (plus_none (uuid_excess w)) ∙ none-plus (uuid_excess w)))

      all_sound : any_lacks t early ≡ false → typed t ≡ ok t (uuid_excess w)
      all_sound d =
          typed-is
          ∙ rw (e, k, d)
          (ap (ok t) (plus_none (plus Warnings.none (plus (uuid_excess w) Warnings.none)) ∙ none-plus (plus (uuid_excess w) Warnings.none) ∙ plus_none (uuid_excess w)))

    -- by the answer on the kinds: another type lacks its kind, or none does
    pub then-missing : (x : Result (Unit {0}) Error) (w : ℕ) → is_ok x ≡ true → judge_types t [] (seg f 0 z) ≡ types_with tt x (uuid_excess w) → any_lacks t early ≡ true → typed t ≡ err missing_uuid_type (uuid_excess w)
    then-missing (Ok u) w o k d = later-missing w k d
    then-missing (Err e) w o k d = absurd (false≢true o)

    pub then-same : (x : Result (Unit {0}) Error) (w : ℕ) → judge_types t [] (seg f 0 z) ≡ types_with tt x (uuid_excess w) → (is_ok x ≡ true → any_lacks t early ≡ false) → typed t ≡ types_with t x (uuid_excess w)
    then-same (Ok u) w k d = all_sound w k (d refl)
    then-same (Err m) w k d = kinds-refused (number m) w k
