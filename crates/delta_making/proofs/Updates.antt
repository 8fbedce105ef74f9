-- One item of the target: its length compared with the base's, and its written update. Assumes nothing.
use Prim.Native.Nat.{ℕ, ◌+◌, ◌/◌, ◌%◌, ◌<◌}
use mathlib.Core.Path.{◌≡◌, refl, sym, ap, ap₂, ◌∙◌}
use mathlib.Core.Bool.{true, false, true≢false}
use mathlib.Core.List.{List, [], ◌∷◌}
use mathlib.Core.Option.{Option, some, none}
use native.Mathlib.Omega.{arith}
use borrow.Author.Tests.{eqb-true}
use lib.IntN.{ℤ, pos}
use lib.ListN.{length}
use lib.Dec.{eqb}
use Rattle.definitions.specs.Ints.{wrapping_sub}
use Rattle.definitions.specs.Areas.{lay_at}
use Rattle.definitions.specs.Tables.{Item, Table, find, is_some, values_at}
use Rattle.definitions.specs.DeltaMaking.{zip_with, agree, differences}
use Rattle.laws.specs.AreaLaws.{lay_at-append}
use Rattle.laws.specs.ZipLaws.{length-differences}
use Rattle.laws.specs.TableShape.{bounds}
use Rattle.laws.specs.TableForm.{length-vals}
use Rattle.laws.specs.DeltaSize.{update-written}
use Rattle.table.specs.Held.{Held}
use Rattle.delta_making.specs.Parts.{changed, change_ints}

-- ---- the base's data, if there is any

module _ (o : Option (List ℤ)) (v : List ℤ) where
  pub none-agrees : is_some o ≡ false → true ≡ agree o v
  none-agrees e = go o e
    where
      go : (p : Option (List ℤ)) → is_some p ≡ false → true ≡ agree p v
      go (some w) e = absurd (true≢false e)
      go none e = refl

  pub none-differs : is_some o ≡ false → differences o v ≡ v
  none-differs e = go o e
    where
      go : (p : Option (List ℤ)) → is_some p ≡ false → differences p v ≡ v
      go (some w) e = absurd (true≢false e)
      go none e = refl

  module _ (w : List ℤ) (e : o ≡ some w) where
    pub some-agrees : eqb (length w) (length v) ≡ agree o v
    some-agrees = rw e

    pub some-differs : zip_with wrapping_sub v w ≡ differences o v
    some-differs = rw e

    pub as_long : agree o v ≡ true → length v ≡ length w
    as_long a = sym (eqb-true (length w) (length v) (rw e at a))

-- ---- a written update

module _ (b : Table) (x : Item) (a : agree (find x.key b) x.values ≡ true) where
  pub length-change : length (change_ints b x) ≡ 3 + length x.values
  length-change =
      ap length (update-written (changed b x))
      ∙ omega (arith, length-differences (find x.key b) x.values a)

  -- the head, then the differences
  pub change-laid : (o h r : List ℤ) (at k n : ℕ) → k ≡ x.key → n ≡ length x.values
      → h ≡ lay_at at (pos (k / 65536) ∷ pos (k % 65536) ∷ pos n ∷ []) o → r ≡ lay_at (at + 3) (differences (find x.key b) x.values) h
      → (at + 3 + n ≡ at + length (change_ints b x)) × (r ≡ lay_at at (change_ints b x) o)
  change-laid o h r at k n ek en eh er =
      let v = differences (find x.key b) x.values in
      let m : n ≡ length v = en ∙ sym (length-differences (find x.key b) x.values a) in
      let head = pos (x.key / 65536) ∷ pos (x.key % 65536) ∷ pos (length v) ∷ [] in
      let eh' : h ≡ lay_at at head o = eh ∙ ap₂ (λ (i j : ℕ). lay_at at (pos (i / 65536) ∷ pos (i % 65536) ∷ pos j ∷ []) o) ek m in (
        omega (arith, length-change),
        er ∙ (ap (lay_at (at + 3) v) eh' ∙ (sym (lay_at-append at head v o) ∙ ap (λ (l : List ℤ). lay_at at l o) (sym (update-written (changed b x))))),
      )

-- the length of an item's data is bounded
pub values-short : (a : List ℤ) (n i : ℕ) → Held a n → i < n → length (values_at a i) < 16384
values-short a n i h l =
    omega (arith, length-vals a h.shape i (omega (arith, h.count-is)), bounds a h.shape i (omega (arith, h.count-is)))
