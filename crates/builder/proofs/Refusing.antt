-- Why an item is refused if an area has no room for it, and what its refusal says. Assumes nothing.
use mathlib.Core.Path.{◌≡◌, refl, sym, ap, ◌∙◌}
use mathlib.Core.Bool.{Bool, true, false, not}
use mathlib.Core.List.{List}
use mathlib.Core.Logic.{⊎_elim}
use Prim.Native.Nat.{ℕ, ◌+◌, ◌≤◌, ◌<◌}
use native.Mathlib.Omega.{arith}
use borrow.Author.Tests.{leb-false, lt-ltb, le-ltb, le-leb, lt-leb, ne_eqb}
use lib.Dec.{ltb, leb}
use lib.IntN.{ℤ}
use lib.ListN.{length}
use Rattle.definitions.specs.Refusals.{duplicate_key, too_many_items, too_long_snap, capacity_error}
use Rattle.definitions.specs.Warnings.{Counts}
use Rattle.definitions.specs.Outcome.{Outcome, err, return, refuse, require, ◌>>◌, Wrote}
use Rattle.definitions.specs.Stored.{stored}
use Rattle.definitions.specs.Tables.{Item, Table, key_of, written, find, is_some, insert, items}
use Rattle.definitions.specs.TableReading.{add_item}
use Rattle.definitions.specs.TableCalls.{stored_table}
use Rattle.definitions.specs.Builder.{next_kind, with_kind}
use Rattle.laws.specs.OutcomeLaws.{ok-not-err}
use Rattle.laws.specs.TableForm.{length-items, length-form}
use Rattle.laws.specs.TableRoundTrip.{items-sound}
use Rattle.laws.specs.TableReadSound.{added-sound, length-insert, length-written-insert}
use Rattle.laws.specs.TableChanged.{find-insert}
use Rattle.laws.specs.DeltaMade.{facts}
use Rattle.laws.specs.TypeLaws.{none-of-type}
use Rattle.laws.specs.BuilderForm.{item_of, was-added}
use Rattle.laws.specs.BuilderCalls.{adds-or-not}
use Rattle.format.specs.Numbers.{number}
use Rattle.format.specs.declared.Error.{Error}
use Rattle.format.specs.declared.Error.TheVariants as error
use Rattle.builder.specs.Building.{Built-as, NoRoom}
use Rattle.builder.proofs.Adding.{refused-is, room-is, no-room-is}

-- ---- an item without room

module _ (a : List ℤ) (t : Table) (i : Item) (n ints d : ℕ) (h : NoRoom a t i n ints d) where
  -- the table with it
  long : length (written (insert i t)) ≡ ints + (d + 2)
  long = omega (arith, length-written-insert i t, h.takes, h.more)

  pub refused-9 : 1024 ≤ n → stored_table a (add_item i t) ≡ record { answer = refuse too_many_items; out = a }
  unfolding add_item stored
  refused-9 l = rw (h.fresh, le-ltb (length t) 1024 (omega (arith, h.count-is)))

  module _ (few : n < 1024) where
    pub refused-8 : 16384 < ints + (d + 2) → stored_table a (add_item i t) ≡ record { answer = refuse too_long_snap; out = a }
    unfolding add_item stored
    refused-8 l = rw (h.fresh, lt-ltb (length t) 1024 (omega (arith, h.count-is)), lt-leb (length (written (insert i t))) 16384 (omega (arith, long)))

    pub refused-40 : ints + (d + 2) ≤ 16384 → stored_table a (add_item i t) ≡ record { answer = refuse capacity_error; out = a }
    unfolding add_item stored
    refused-40 l =
        rw (h.fresh, lt-ltb (length t) 1024 (omega (arith, h.count-is)), le-leb (length (written (insert i t))) 16384 (omega (arith, long)), lt-leb (length (written (insert i t))) (length a) (omega (arith, long, h.lacks)))

-- ---- what a refusal says

-- the number of one
number_of : {A : Type 0} {m n : ℕ} {v w : Counts} → ◌≡◌ {A = Outcome A} (err m v) (err n w) → m ≡ n
number_of e = cc

-- adding itself refuses by 14, 9 and 8 alone
never-40 : (i : Item) (t : Table) (n : ℕ) → add_item i t ≡ refuse n → n ≡ capacity_error → ⊥
unfolding add_item
never-40 i t n e z = go (not (is_some (find i.key t))) (ltb (length t) 1024) (leb (length (written (insert i t))) 16384) e
  where
    go : (p q r : Bool) → (require p duplicate_key >> (require q too_many_items >> (require r too_long_snap >> return (insert i t)))) ≡ refuse n → ⊥
    go true true true d = ok-not-err d
    go true true false d = omega (arith, number_of d)
    go true false r d = omega (arith, number_of d)
    go false q r d = omega (arith, number_of d)

-- the other errors have other numbers
pub not-40 : (e : Error) → (e ≡ error.CapacityError → ⊥) → number e ≡ capacity_error → ⊥
not-40 error.UnexpectedEnd o q = omega arith
not-40 error.IntOutOfRange o q = omega arith
not-40 error.DeletedItemsUnpacking o q = omega arith
not-40 error.ItemDiffsUnpacking o q = omega arith
not-40 error.TypeIdRange o q = omega arith
not-40 error.IdRange o q = omega arith
not-40 error.NegativeSize o q = omega arith
not-40 error.TooLongSnap o q = omega arith
not-40 error.TooManyItems o q = omega arith
not-40 error.DeltaDifferingSizes o q = omega arith
not-40 error.OffsetsUnpacking o q = omega arith
not-40 error.InvalidOffset o q = omega arith
not-40 error.ItemsUnpacking o q = omega arith
not-40 error.DuplicateKey o q = omega arith
not-40 error.DuplicateUuidType o q = omega arith
not-40 error.InvalidUuidType o q = omega arith
not-40 error.MissingUuidType o q = omega arith
not-40 error.OldDelta o q = omega arith
not-40 error.InvalidNumParts o q = omega arith
not-40 error.InvalidPart o q = omega arith
not-40 error.DuplicatePart o q = omega arith
not-40 error.StoreOldDelta o q = omega arith
not-40 error.UnknownSnap o q = omega arith
not-40 error.InvalidCrc o q = omega arith
not-40 error.CapacityError o q = o refl
not-40 error.ScratchTooShort o q = omega arith
not-40 error.InputTooLong o q = omega arith
not-40 error.PartTooLong o q = omega arith
not-40 error.StoreFull o q = omega arith
not-40 error.InvalidTypeId o q = omega arith
not-40 error.KnownSizeDiffers o q = omega arith
not-40 error.NotInForm o q = omega arith
not-40 error.NonZeroIntPadding o q = omega arith
not-40 error.ShortRule o q = omega arith

-- an item may be added, but an area has no room for it
pub record Lacks (a : List ℤ) (i : Item) (t : Table) : Type 0 where
  pub adds : add_item i t ≡ return (insert i t)
  pub long : length a < length (written (insert i t))

module _ (a : List ℤ) (i : Item) (t : Table) (e : ℕ) (l : List ℤ) (s : stored_table a (add_item i t) ≡ record { answer = refuse e; out = l }) where
  -- the refusal of the item, or its want of room
  refusal : (n : ℕ) → add_item i t ≡ refuse n → (n ≡ e) × (a ≡ l)
  refusal n f =
      let g = sym (refused-is a n) ∙ (sym (ap (stored_table a) f) ∙ s) in
      (number_of (ap (λ (w : Wrote ℕ ℤ). w.answer) g), ap (λ (w : Wrote ℕ ℤ). w.out) g)

  want : add_item i t ≡ return (insert i t) → (b : Bool) → leb (length (written (insert i t))) (length a) ≡ b → (capacity_error ≡ e) × (a ≡ l) × Lacks a i t
  want f true q = absurd (ok-not-err (ap (λ (w : Wrote ℕ ℤ). w.answer) (sym (room-is a (insert i t) q) ∙ (sym (ap (stored_table a) f) ∙ s))))
  want f false q =
      let g = sym (no-room-is a (insert i t) q) ∙ (sym (ap (stored_table a) f) ∙ s) in
      (number_of (ap (λ (w : Wrote ℕ ℤ). w.answer) g), ap (λ (w : Wrote ℕ ℤ). w.out) g, record { adds = f; long = leb-false _ _ q })

  -- by 40
  pub lacking : e ≡ capacity_error → (a ≡ l) × Lacks a i t
  lacking q =
      ⊎_elim
      (λ (f : add_item i t ≡ return (insert i t)). let w = want f (leb (length (written (insert i t))) (length a)) refl in (w.1, w.2))
      (λ (f : (n : ℕ) × (add_item i t ≡ refuse n)). absurd (never-40 i t f.0 f.1 ((refusal f.0 f.1).0 ∙ q)))
      (adds-or-not i t)

  -- by another
  pub item_refused : (e ≡ capacity_error → ⊥) → add_item i t ≡ refuse e
  item_refused q =
      ⊎_elim
      (λ (f : add_item i t ≡ return (insert i t)). absurd (q (sym (want f (leb (length (written (insert i t))) (length a)) refl).0)))
      (λ (f : (n : ℕ) × (add_item i t ≡ refuse n)). f.1 ∙ ap (refuse {A = Table}) (refusal f.0 f.1).0)
      (adds-or-not i t)

-- ---- an item of a kind whose own item has no room

module _ (a : List ℤ) (n ints kinds : ℕ) (b : Built-as a n ints kinds) (k : List ℤ) (f : Lacks a (item_of 0 (next_kind (items a)) k) (items a)) where
  abbrev t : Table
  t = items a

  abbrev first : Item
  first = item_of 0 (next_kind t) k

  -- the table with that item
  with_first : length (written (insert first t)) ≡ ints + (length k + 2)
  with_first = omega (arith, length-written-insert first t, length-form a b.held.shape, b.takes)

  -- it is not too long
  pub not-too-long : ints + (length k + 2) ≤ 16384
  not-too-long =
      omega (arith, with_first, (facts (insert first t) (added-sound first t (insert first t) (omega (arith, b.kinds, b.few)) (items-sound a b.held.shape) f.adds)).short)

  -- and there is no room for it with the other
  pub second-lacks : (id : ℕ) (v : List ℤ) → id < 65536 → NoRoom a (with_kind t (next_kind t) k) (item_of (next_kind t) id v) (n + 1) (ints + (length k + 2)) (length v)
  second-lacks id v l =
      let new : is_some (find first.key t) ≡ false = (was-added first t (insert first t) f.adds).1 in
      record {
        fresh =
            ap is_some (find-insert first t new (key_of (next_kind t) id))
            ∙ rw (ne_eqb first.key (key_of (next_kind t) id) (λ e. omega (arith, b.kinds, b.few))) (none-of-type t (next_kind t) id (omega arith) l new b.types);
        count-is = omega (arith, length-insert first t, length-items a b.held.shape, b.held.count-is);
        takes = with_first;
        more = refl;
        lacks = omega (arith, with_first, f.long);
      }
