-- The results of adding items to a builder's table, and what an area holds after the first of two. Assumes nothing.
use mathlib.Core.Path.{◌≡◌, refl, sym, ap, ◌∙◌}
use mathlib.Core.Bool.{Bool, true, false}
use mathlib.Core.List.{List, [], ◌∷◌}
use mathlib.Core.Logic.{⊎_elim}
use mathlib.Core.Option.{some, none}
use Prim.Native.Nat.{ℕ, ◌+◌, ◌/◌, ◌^◌, ◌≤◌, ◌<◌}
use native.Mathlib.Omega.{arith}
use borrow.Author.Tests.{leb-true, lt-ltb, le-ltb}
use lib.Dec.{leb}
use lib.IntN.{ℤ}
use lib.ListN.{length}
use Rattle.definitions.specs.Areas.{lay}
use Rattle.definitions.specs.Refusals.{capacity_error, invalid_type_id, not_in_form}
use Rattle.definitions.specs.Outcome.{Outcome, return, refuse, ◌>>◌, ◌>>=◌, Wrote}
use Rattle.definitions.specs.Stored.{stored}
use Rattle.definitions.specs.Tables.{Item, Table, written, sound, insert, table_of, items, count, size}
use Rattle.definitions.specs.TableReading.{add_item}
use Rattle.definitions.specs.TableCalls.{stored_table}
use Rattle.definitions.specs.Types.{TypeId, Ordinal, Uuid, kind_number, judge_type_id}
use Rattle.definitions.specs.Builder.{held_builder, add_to, step_on, next_kind, with_kind, add_of_kind, add_typed, add_where, builder_add_item_call}
use Rattle.laws.specs.OutcomeLaws.{ok-not-err, ok-value, return-bind}
use Rattle.laws.specs.TableShape.{Shape}
use Rattle.laws.specs.TableForm.{length-items, length-form}
use Rattle.laws.specs.TableRoundTrip.{items-sound}
use Rattle.laws.specs.TableReadBack.{holds}
use Rattle.laws.specs.TableReadSound.{added-sound, length-insert}
use Rattle.laws.specs.BuilderForm.{item_of}
use Rattle.laws.specs.BuilderCalls.{laid-held, adds-or-not}
use Rattle.table.specs.Held.{Held}
use Rattle.builder.specs.Building.{Built-as, added_as}

-- ---- what is stored

-- a refusal stores nothing
pub refused-is : (a : List ℤ) (n : ℕ) → stored_table a (refuse n) ≡ record { answer = refuse n; out = a }
unfolding stored
refused-is a n = refl

-- a table that fits
pub room-is : (a : List ℤ) (u : Table) → leb (length (written u)) (length a) ≡ true → stored_table a (return u) ≡ record { answer = return (length (written u)); out = lay (written u) a }
unfolding stored
room-is a u q = rw q

-- one that does not
pub no-room-is : (a : List ℤ) (u : Table) → leb (length (written u)) (length a) ≡ false → stored_table a (return u) ≡ record { answer = refuse capacity_error; out = a }
unfolding stored
no-room-is a u q = rw q

-- ---- an item that was added

module _ (a : List ℤ) (i : Item) (t : Table) where
  -- the item was added, and m ints were written over the area
  pub record Added (m : ℕ) (l : List ℤ) : Type 0 where
    pub adds : add_item i t ≡ return (insert i t)
    pub fits : length (written (insert i t)) ≤ length a
    pub takes : m ≡ length (written (insert i t))
    pub laid : l ≡ lay (written (insert i t)) a

  -- by its answer
  pub added : (m : ℕ) (l : List ℤ) → stored_table a (add_item i t) ≡ record { answer = return m; out = l } → Added m l
  added m l e =
      ⊎_elim
      (λ (f : add_item i t ≡ return (insert i t)). by-room f (leb (length (written (insert i t))) (length a)) refl (sym (ap (stored_table a) f) ∙ e))
      (λ (f : (n : ℕ) × (add_item i t ≡ refuse n)). absurd (refusal f.0 (sym (ap (stored_table a) f.1) ∙ e)))
      (adds-or-not i t)
    where
      refusal : (n : ℕ) → stored_table a (refuse n) ≡ record { answer = return m; out = l } → ⊥
      refusal n d = ok-not-err (sym (ap (λ (w : Wrote ℕ ℤ). w.answer) (sym (refused-is a n) ∙ d)))

      by-room : add_item i t ≡ return (insert i t) → (b : Bool) → leb (length (written (insert i t))) (length a) ≡ b → stored_table a (return (insert i t)) ≡ record { answer = return m; out = l } → Added m l
      by-room f true q d =
          let g = sym (room-is a (insert i t) q) ∙ d in
          record { adds = f; fits = leb-true _ _ q; takes = sym (ok-value (ap (λ (w : Wrote ℕ ℤ). w.answer) g)); laid = sym (ap (λ (w : Wrote ℕ ℤ). w.out) g) }
      by-room f false q d = absurd (ok-not-err (sym (ap (λ (w : Wrote ℕ ℤ). w.answer) (sym (no-room-is a (insert i t) q) ∙ d))))

-- the area then holds the table with the item
module _ (a : List ℤ) (n : ℕ) (h : Held a n) (i : Item) (k : i.key < 2 ^ 32) (m : ℕ) (l : List ℤ) (d : Added a i (items a) m l) where
  more-sound : sound (insert i (items a)) ≡ true
  more-sound = added-sound i (items a) (insert i (items a)) k (items-sound a h.shape) d.adds

  more : Shape l × (items l ≡ insert i (items a))
  more = holds l (insert i (items a)) (ap table_of d.laid ∙ laid-held (insert i (items a)) a more-sound d.fits)

  pub items_more : items l ≡ insert i (items a)
  items_more = more.1

  pub held_more : Held l (n + 1)
  held_more =
      record {
        count-is = omega (arith, length-items l more.0, ap length items_more, length-insert i (items a), length-items a h.shape, h.count-is);
        shape = more.0;
      }

  pub takes-more : m ≡ 2 + count l + size l / 4
  takes-more = d.takes ∙ ap (λ (t : Table). length (written t)) (sym items_more) ∙ length-form l more.0

-- ---- by the type

module _ (a : List ℤ) (id : ℕ) (v : List ℤ) where
  pub number-zero : (n : ℕ) → n ≡ 0 → added_as a (Ordinal n) id v ≡ record { answer = refuse invalid_type_id; out = a }
  unfolding add_where judge_type_id
  number-zero n e = rw (le-ltb 0 n (omega arith))

  pub number-high : (n : ℕ) → 16384 ≤ n → added_as a (Ordinal n) id v ≡ record { answer = refuse invalid_type_id; out = a }
  unfolding add_where judge_type_id
  number-high n h = rw (lt-ltb 0 n (omega arith), le-ltb n 16384 h)

  pub number-adds : (n : ℕ) → (n ≡ 0 → ⊥) → n < 16384 → added_as a (Ordinal n) id v ≡ add_to a (items a) n id v
  unfolding add_where add_typed judge_type_id
  number-adds n d h = rw (lt-ltb 0 n (omega arith), lt-ltb n 16384 h)

  module _ (k : List ℤ) where
    pub kind-adds : (r : ℕ) → kind_number k (items a) ≡ some r → added_as a (Uuid k) id v ≡ add_to a (items a) r id v
    unfolding add_where add_typed judge_type_id
    kind-adds r e = rw e

    pub kind-new : kind_number k (items a) ≡ none → added_as a (Uuid k) id v ≡ add_of_kind a (items a) none k id v
    unfolding add_where add_typed judge_type_id
    kind-new e = rw e

  module _ (t : Table) (k : List ℤ) where
    -- the item that names a kind
    abbrev named : Outcome Table
    named = add_item (item_of 0 (next_kind t) k) t

    -- the result of the other item then
    abbrev other : List ℤ → Wrote ℕ ℤ
    other c = add_to c (with_kind t (next_kind t) k) (next_kind t) id v

    module _ (l : List ℤ) where
      -- the first is refused
      pub first-refused : (e : ℕ) → named ≡ refuse e → add_to a t 0 (next_kind t) k ≡ record { answer = refuse e; out = l } → add_of_kind a t none k id v ≡ record { answer = refuse e; out = l }
      first-refused e f q = ap (λ (o : Outcome Table). step_on o (add_to a t 0 (next_kind t) k) other) f ∙ q

      -- it is not: what it leaves of the area goes to the other
      pub first-stays : (r : Outcome ℕ) → named ≡ return (with_kind t (next_kind t) k) → add_to a t 0 (next_kind t) k ≡ record { answer = r; out = l } → add_of_kind a t none k id v ≡ other l
      first-stays r f q = ap (λ (o : Outcome Table). step_on o (add_to a t 0 (next_kind t) k) other) f ∙ ap (λ (w : Wrote ℕ ℤ). other w.out) q

  -- ---- the call

  pub call-bad : (y : TypeId) → held_builder a ≡ refuse not_in_form → builder_add_item_call a y id v ≡ record { answer = refuse not_in_form; out = a }
  unfolding add_where
  call-bad y e = rw e

  pub call-built : (y : TypeId) (n k m : ℕ) → Built-as a n k m → builder_add_item_call a y id v ≡ added_as a y id v
  call-built y n k m b = ap (add_where a y id v) (ap (λ (o : Outcome Table). o >>= λ t. judge_type_id y >> return t) b.builder ∙ return-bind (items a) (λ t. judge_type_id y >> return t))

-- ---- the ints of a kind

-- equal ints make equal lists
pub four : {a b c d a' b' c' d' : ℤ} → a ≡ a' → b ≡ b' → c ≡ c' → d ≡ d' → a ∷ b ∷ c ∷ d ∷ [] ≡ a' ∷ b' ∷ c' ∷ d' ∷ []
four e f g h = λ i. e i ∷ f i ∷ g i ∷ h i ∷ []
