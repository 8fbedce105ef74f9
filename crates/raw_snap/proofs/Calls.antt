-- The result of each call on a table area, by what was found in the area. Assumes nothing.
use Prim.Native.Nat.{ℕ, ◌<◌, ◌≤◌}
use mathlib.Core.Path.{◌≡◌, refl, sym, ap, ◌∙◌}
use mathlib.Core.Bool.{Bool, true, false, cond}
use mathlib.Core.List.{List, [], ◌∷◌}
use mathlib.Core.Option.{some, none}
use native.Mathlib.Omega.{arith}
use Rattle.std.specs.Prelude.{None}
use lib.IntN.{ℤ, pos}
use lib.ListN.{length, set}
use lib.Dec.{ltb}
use borrow.Author.Tests.{lt-ltb, le-ltb, le-leb, lt-leb}
use Rattle.definitions.specs.Ints.{from_bits}
use Rattle.definitions.specs.Refusals.{not_in_form, capacity_error}
use Rattle.definitions.specs.Outcome.{Outcome, return, refuse}
use Rattle.definitions.specs.Stored.{stored}
use Rattle.definitions.specs.Tables.{Item, written, body, offsets, table_of, items, find, is_some, walk, crc, values_at}
use Rattle.definitions.specs.TableCalls.{held, nth, empty_call, num_items_call, has_item_call, item_call, crc_call, walk_key_call, walk_item_call, stored_table, add_item_call}
use Rattle.definitions.specs.TableReading.{add_item}
use Rattle.laws.specs.OutcomeLaws.{return-bind}
use Rattle.laws.specs.TableShape.{Shape, some_is}
use Rattle.laws.specs.TableForm.{length-items}
use Rattle.laws.specs.TableWalk.{nth_past, length-walk}
use Rattle.table.specs.Held.{Held, data_in, form_of}
use Rattle.table.specs.Forms.{unformed}

-- ---- the empty table

pub no_room : (out : List ℤ) → length out < 2 → empty_call out ≡ record { answer = refuse capacity_error; out = out }
unfolding stored written body offsets
no_room out l = rw (lt-leb 2 (length out) l)

pub both_stored : (out : List ℤ) → 2 ≤ length out → empty_call out ≡ record { answer = return 2; out = set (set out 0 (pos 0)) 1 (pos 0) }
unfolding stored written body offsets
both_stored [] l = absurd (omega arith)
both_stored (x ∷ []) l = absurd (omega arith)
both_stored (x ∷ y ∷ out) l = rw (le-leb 2 (length (x ∷ y ∷ out)) l)

-- ---- an area that is not in form

module _ (a : List ℤ) (e : None ≡ form_of (table_of a)) where
  pub not-held : held a ≡ refuse not_in_form
  unfolding held
  not-held = rw (unformed a e)

  pub no_item : (k : ℕ) → [] ≡ item_call a k
  unfolding item_call
  no_item k = rw not-held

  pub no-walk-item : (i : ℕ) → [] ≡ walk_item_call a i
  unfolding walk_item_call
  no-walk-item i = rw not-held

-- ---- an area that holds n items

-- whether there are some data
some-within : (d : List ℤ) (b : Bool) → ◌≡◌ {A = Outcome Bool} (return (is_some (cond b (some d) none))) (return b)
some-within d true = refl
some-within d false = refl

module _ (a : List ℤ) (n : ℕ) (h : Held a n) where
  is_held : held a ≡ return (items a)
  unfolding held
  is_held = rw (some_is a h.shape)

  length-is : length (items a) ≡ n
  length-is = length-items a h.shape ∙ sym h.count-is

  pub num-items-is : num_items_call a ≡ return n
  num-items-is = rw (is_held, length-is)

  pub crc-is : (s : ℤ) → s ≡ crc (items a) → crc_call a ≡ return s
  crc-is s e = rw (is_held, ← e)

  module _ (k r : ℕ) (e : find k (items a) ≡ data_in a n r) where
    pub has-is : has_item_call a k ≡ return (ltb r n)
    has-is = rw (is_held, e) (some-within (values_at a r) (ltb r n))

    pub item-found : r < n → values_at a r ≡ item_call a k
    unfolding item_call
    item-found l = rw (is_held, e, lt-ltb r n l)

    pub item-missing : n ≤ r → [] ≡ item_call a k
    unfolding item_call
    item-missing l = rw (is_held, e, le-ltb r n l)

  module _ (i : ℕ) (x : Item) (e : nth (walk (items a)) i ≡ some x) where
    pub walk-key-is : (z : ℤ) → z ≡ from_bits x.key → walk_key_call a i ≡ return (some z)
    walk-key-is z d = rw (is_held, e, ← d)

    pub walk-item-is : x.values ≡ walk_item_call a i
    unfolding walk_item_call
    walk-item-is = rw (is_held, e)

  module _ (i : ℕ) (l : n ≤ i) where
    past : nth (walk (items a)) i ≡ none
    past = nth_past (walk (items a)) i (omega (arith, length-walk (items a), length-is))

    pub walk-key-end : walk_key_call a i ≡ return none
    walk-key-end = rw (is_held, past)

    pub walk-item-end : [] ≡ walk_item_call a i
    unfolding walk_item_call
    walk-item-end = rw (is_held, past)

-- ---- an item that is added

module _ (a : List ℤ) (k : ℕ) (v : List ℤ) where
  abbrev x : Item
  x = record { key = k; values = v }

  pub refused-47 : table_of a ≡ none → add_item_call a x ≡ record { answer = refuse not_in_form; out = a }
  unfolding held stored
  refused-47 e = rw e

  pub in-form : Shape a → add_item_call a x ≡ stored_table a (add_item x (items a))
  unfolding held
  in-form h = rw (some_is a h) (ap (stored_table a) (return-bind (items a) (add_item x)))
