-- The kinds of a table that run without a gap, item by item, and the form of a builder's table. Assumes nothing.
use mathlib.Core.Path.{◌≡◌, refl, sym, subst, ◌∙◌}
use mathlib.Core.Bool.{true, false, cond, ◌&&◌, false≢true}
use mathlib.Core.List.{List, ◌∷◌}
use Prim.Native.Nat.{ℕ, zero, suc, ◌+◌, ◌-◌, ◌/◌, ◌≤◌, ◌<◌}
use native.Mathlib.Numerals.{add-one}
use native.Mathlib.Omega.{arith}
use borrow.Author.Tests.{eq-eqb, ne_eqb}
use lib.Dec.{eqb}
use Rattle.std.specs.Prelude.{Result, Ok, Err, Option, Some, None, is_err}
use lib.IntN.{ℤ}
use lib.ListN.{length}
use Rattle.definitions.specs.Refusals.{not_in_form}
use Rattle.definitions.specs.Warnings.{Counts}
use Rattle.definitions.specs.Outcome.{return, refuse}
use Rattle.definitions.specs.Tables.{Item, Table, table_of, items, item_at, key_at, count, size}
use Rattle.definitions.specs.TableCalls.{held}
use Rattle.definitions.specs.Types.{type_of, typed}
use Rattle.definitions.specs.Builder.{kinds_run, num_kinds, builder_form, held_builder, finish_call}
use Rattle.laws.specs.TableShape.{keys-le, some_is}
use Rattle.laws.specs.TableForm.{length-form}
use Rattle.table.specs.Held.{Held, form_of}
use Rattle.table.specs.Writing.{not-held}
use Rattle.types.specs.Picks.{seg, items-seg}
use Rattle.format.specs.declared.Error.{Error}
use Rattle.types.specs.Answers.{types_with}
use Rattle.builder.specs.Building.{Runs, Built-as}

-- ---- item by item

-- the first of some items
run-cons : (m : ℕ) (x : Item) (t : Table) → kinds_run m (x ∷ t) ≡ cond (eqb (type_of x) 0) (eqb x.key m && (eqb (length x.values) 4 && kinds_run (suc m) t)) (kinds_run m t)
unfolding kinds_run
run-cons m x t = refl

count-cons : (x : Item) (t : Table) → num_kinds (x ∷ t) ≡ cond (eqb (type_of x) 0) 1 0 + num_kinds t
unfolding num_kinds
count-cons x t = refl

module _ (f : ℕ → Item) where
  -- items that are not of type 0
  plain-run : (m j k : ℕ) → ((i : ℕ) → j ≤ i → i < j + k → 65536 ≤ (f i).key) → (kinds_run m (seg f j k) ≡ true) × (num_kinds (seg f j k) ≡ 0)
  unfolding kinds_run num_kinds
  plain-run m j zero h = (refl, refl)
  plain-run m j (suc k) h =
      let r = plain-run m (suc j) k (λ i l b. h i (omega arith) (omega arith)) in
      let e = ne_eqb (type_of (f j)) 0 (λ q. omega (arith, h j (omega arith) (omega arith))) in
      (rw e r.0, rw e (omega (arith, r.1)))

  module _ (n j : ℕ) where
    -- what is left, if the kinds so far run
    pub record Left : Type 0 where
      pub few : j ≤ n
      pub run : kinds_run 16384 (seg f 0 n) ≡ kinds_run (16384 + j) (seg f j (n - j))
      pub kinds : num_kinds (seg f 0 n) ≡ j + num_kinds (seg f j (n - j))

    module _ (l : j < n) (k : (f j).key < 65536) where
      next : n - j ≡ suc (n - (j + 1))
      next = omega arith

      type-zero : eqb (type_of (f j)) 0 ≡ true
      type-zero = eq-eqb (type_of (f j)) 0 (omega arith)

      first_run : kinds_run (16384 + j) (seg f j (n - j)) ≡ (eqb (f j).key (16384 + j) && (eqb (length (f j).values) 4 && kinds_run (16384 + (j + 1)) (seg f (j + 1) (n - (j + 1)))))
      first_run =
          let e : suc (16384 + j) ≡ 16384 + (j + 1) = omega arith in
          rw (next, run-cons (16384 + j) (f j) (seg f (suc j) (n - (j + 1))), type-zero, e, add-one j)

      first_count : num_kinds (seg f j (n - j)) ≡ 1 + num_kinds (seg f (j + 1) (n - (j + 1)))
      first_count = rw (next, count-cons (f j) (seg f (suc j) (n - (j + 1))), type-zero, add-one j)

      pub other-id : ((f j).key ≡ 16384 + j → ⊥) → kinds_run (16384 + j) (seg f j (n - j)) ≡ false
      other-id d = first_run ∙ rw (ne_eqb (f j).key (16384 + j) d)

      module _ (e : (f j).key ≡ 16384 + j) where
        pub other_length : (length (f j).values ≡ 4 → ⊥) → kinds_run (16384 + j) (seg f j (n - j)) ≡ false
        other_length d = first_run ∙ rw (eq-eqb (f j).key (16384 + j) e, ne_eqb (length (f j).values) 4 d)

        pub runs_on : length (f j).values ≡ 4 → kinds_run (16384 + j) (seg f j (n - j)) ≡ kinds_run (16384 + (j + 1)) (seg f (j + 1) (n - (j + 1)))
        runs_on d = first_run ∙ rw (eq-eqb (f j).key (16384 + j) e, eq-eqb (length (f j).values) 4 d)

        pub counts-on : num_kinds (seg f j (n - j)) ≡ 1 + num_kinds (seg f (j + 1) (n - (j + 1)))
        counts-on = first_count

-- ---- the kinds of an area's table

module _ (a : List ℤ) (n : ℕ) (h : Held a n) where
  pub left-start : Left (item_at a) n 0
  left-start =
      let e : n - 0 ≡ n = omega arith in
      record { few = omega arith; run = rw e; kinds = rw e (omega arith) }

  -- as the table has them
  in_table : (r : Option ℕ) → Runs (seg (item_at a) 0 n) r → Runs (items a) r
  in_table r x = subst (λ (t : Table). Runs t r) (items-seg a n h) x

  module _ (j : ℕ) (l : Left (item_at a) n j) where
    pub all-run : n ≤ j → Runs (items a) (Some n)
    all-run b =
        let q : j ≡ n = omega (arith, l.few) in
        let p = plain-run (item_at a) (16384 + j) j (n - j) (λ i x y. absurd (omega arith)) in
        in_table (Some n) (l.run ∙ p.0, omega (arith, l.kinds, p.1), omega (arith, h.shape.few, h.count-is))

    module _ (b : j < n) where
      -- item j is not of type 0, nor is one after it
      pub ended : 65536 ≤ key_at a j → Runs (items a) (Some j)
      ended k =
          let p = plain-run (item_at a) (16384 + j) j (n - j) (λ i x y. omega (arith, keys-le a h.shape j i x (omega (arith, h.count-is)))) in
          in_table (Some j) (l.run ∙ p.0, omega (arith, l.kinds, p.1), omega (arith, h.shape.few, h.count-is))

      gapped : kinds_run (16384 + j) (seg (item_at a) j (n - j)) ≡ false → Runs (items a) None
      gapped e = in_table None (l.run ∙ e)

      module _ (k : key_at a j < 65536) where
        pub wrong-id : (key_at a j ≡ 16384 + j → ⊥) → Runs (items a) None
        wrong-id d = gapped (other-id (item_at a) n j b k d)

        module _ (e : key_at a j ≡ 16384 + j) where
          pub wrong-length : (length (item_at a j).values ≡ 4 → ⊥) → Runs (items a) None
          wrong-length d = gapped (other_length (item_at a) n j b k e d)

          pub one_more : length (item_at a j).values ≡ 4 → Left (item_at a) n (j + 1)
          one_more d =
              record {
                few = omega arith;
                run = l.run ∙ runs_on (item_at a) n j b k e d;
                kinds = omega (arith, l.kinds, counts-on (item_at a) n j b k e);
              }

-- ---- the form of a builder's table

module _ (a : List ℤ) where
  pub not-in-form : None ≡ form_of (table_of a) → held_builder a ≡ refuse not_in_form
  unfolding held_builder
  not-in-form e = rw (not-held a e)

  module _ (n : ℕ) (h : Held a n) where
    is_held : held a ≡ return (items a)
    unfolding held
    is_held = rw (some_is a h.shape)

    pub kinds-apart : Runs (items a) None → held_builder a ≡ refuse not_in_form
    unfolding held_builder builder_form
    kinds-apart x = rw (is_held, x)

    module _ (r : ℕ) (x : Runs (items a) (Some r)) where
      -- by the answer on the types
      pub types-refused : (y : Result (Unit {0}) Error) (w : Counts) → is_err y ≡ true → typed (items a) ≡ types_with (items a) y w → held_builder a ≡ refuse not_in_form
      unfolding held_builder builder_form
      types-refused (Ok u) w b e = absurd (false≢true b)
      types-refused (Err m) w b e = rw (is_held, x.0, e)

      pub builds : (k : ℕ) (y : Result (Unit {0}) Error) (w : Counts) → k ≡ 2 + count a + size a / 4 → is_err y ≡ false → typed (items a) ≡ types_with (items a) y w → Built-as a n k r
      builds k (Ok u) w t b e =
          record { builder = unfold held_builder builder_form in rw (is_held, x.0, e); held = h; takes = t; kinds = x.1; few = x.2; types = rw e }
      builds k (Err m) w t b e = absurd (false≢true (sym b))

-- ---- finishing

pub finished : (a : List ℤ) (n k m : ℕ) → Built-as a n k m → finish_call a ≡ return k
finished a n k m b = rw (b.builder, length-form a b.held.shape, b.takes)

pub not-finished : (a : List ℤ) → held_builder a ≡ refuse not_in_form → finish_call a ≡ refuse not_in_form
not-finished a e = rw e
