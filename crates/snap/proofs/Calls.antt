-- The result of each call on types, by what was found in the area. Assumes nothing.
use mathlib.Core.Path.{◌≡◌, refl, sym, ap, ◌∙◌}
use mathlib.Core.Bool.{false}
use mathlib.Core.List.{List, []}
use mathlib.Core.Option.{Option, none}
use Prim.Native.Nat.{ℕ}
use Rattle.std.specs.Prelude.{Result, Ok, Err, Some, None}
use Rattle.std.specs.Prelude as Code
use lib.IntN.{ℤ}
use Rattle.definitions.specs.Refusals.{not_in_form}
use Rattle.definitions.specs.Warnings.{plus}
use Rattle.definitions.specs.Warnings as Warnings
use Rattle.definitions.specs.Outcome.{Outcome, ok, err, return, refuse, ◌>>=◌, ◌>>◌}
use Rattle.definitions.specs.Tables.{key_of, table_of, items, find, is_some}
use Rattle.definitions.specs.TableCalls.{held, or_empty}
use Rattle.definitions.specs.Types.{TypeId, judge_type_id, raw_type_id, type_id, item_with, typed_item, typed_item_call, typed_has_item_call, raw_type_id_call, type_id_call}
use Rattle.laws.specs.WarningLaws.{plus_none}
use Rattle.laws.specs.OutcomeLaws.{return-bind}
use Rattle.laws.specs.TableShape.{some_is}
use Rattle.format.specs.Numbers.{number}
use Rattle.format.specs.declared.Error.{Error}
use Rattle.table.specs.Held.{Held, form_of}
use Rattle.table.specs.Writing.{not-held}
use Rattle.snap.specs.Answers.{raw_type, raw_type_in}

-- ---- an area that is not in form

module _ (a : List ℤ) (e : None ≡ form_of (table_of a)) where
  pub no-raw-type : (y : TypeId) → raw_type_id_call a y ≡ refuse not_in_form
  no-raw-type y = rw (not-held a e)

  pub no-type : (n : ℕ) → type_id_call a n ≡ refuse not_in_form
  no-type n = rw (not-held a e)

  no-typed-item : (y : TypeId) (id : ℕ) → typed_item a y id ≡ refuse not_in_form
  unfolding typed_item
  no-typed-item y id = rw (not-held a e)

  pub no-has : (y : TypeId) (id : ℕ) → typed_has_item_call a y id ≡ refuse not_in_form
  no-has y id = rw (no-typed-item y id)

  pub no_item : (y : TypeId) (id : ℕ) → [] ≡ typed_item_call a y id
  no_item y id = rw (no-typed-item y id)

-- ---- an area that holds n items

-- a test and then two steps
test-then : {A B : Type 0} (o : Outcome (Unit {0})) (x : A) (g : A → B) → (o >> return (g x)) ≡ ((o >> return x) >>= λ y. return (g y))
test-then (ok u w) x g = ap (ok (g x)) (sym (plus_none (plus w Warnings.none)))
test-then (err n w) x g = refl

module _ (a : List ℤ) (n : ℕ) (h : Held a n) where
  is_held : held a ≡ return (items a)
  unfolding held
  is_held = rw (some_is a h.shape)

  pub raw-type-is : (y : TypeId) → raw_type_id_call a y ≡ raw_type_in (items a) y
  raw-type-is y = rw is_held (return-bind (items a) (λ t. raw_type_in t y))

  pub type-is : (m : ℕ) → type_id_call a m ≡ return (type_id (items a) m)
  type-is m = rw is_held

  module _ (y : TypeId) (id : ℕ) (r : Result (Code.Option ℕ) Error) (e : raw_type_in (items a) y ≡ raw_type r) where
    by-raw : typed_item a y id ≡ (raw_type r >>= λ o. return (item_with (items a) o id))
    unfolding typed_item
    by-raw =
        rw is_held (return-bind (items a) (λ t. judge_type_id y >> return (item_with t (raw_type_id t y) id)))
        ∙ test-then (judge_type_id y) (raw_type_id (items a) y) (λ o. item_with (items a) o id)
        ∙ ap (λ (o : Outcome (Option ℕ)). o >>= λ p. return (item_with (items a) p id)) e

    module _ (x : Error) (q : r ≡ Err x) where
      refused : typed_item a y id ≡ refuse (number x)
      refused = by-raw ∙ rw q

      pub has-refused : typed_has_item_call a y id ≡ refuse (number x)
      has-refused = rw refused

    module _ (q : r ≡ Ok None) where
      unknown : typed_item a y id ≡ return none
      unknown = by-raw ∙ rw q

      pub has-unknown : typed_has_item_call a y id ≡ return false
      has-unknown = rw unknown

    module _ (m : ℕ) (q : r ≡ Ok (Some m)) where
      known : typed_item a y id ≡ return (find (key_of m id) (items a))
      known = by-raw ∙ rw q

      pub has-known : typed_has_item_call a y id ≡ return (is_some (find (key_of m id) (items a)))
      has-known = rw known

      pub item-known : typed_item_call a y id ≡ or_empty (find (key_of m id) (items a))
      item-known = rw known

-- no raw type, or a refusal: no item
pub item-other : (a : List ℤ) (n : ℕ) (h : Held a n) (y : TypeId) (id : ℕ) (r : Result (Code.Option ℕ) Error) → raw_type_in (items a) y ≡ raw_type r → ((m : ℕ) → r ≡ Ok (Some m) → ⊥) → [] ≡ typed_item_call a y id
item-other a n h y id (Ok (Some m)) e d = absurd (d m refl)
item-other a n h y id (Ok None) e d = rw (unknown a n h y id (Ok None) e refl)
item-other a n h y id (Err x) e d = rw (refused a n h y id (Err x) e x refl)
