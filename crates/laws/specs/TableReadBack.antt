-- A table that an area holds is read from it; what is written is read back without a warning. Assumes nothing.
use Rattle.std.proofs.Math.Path.{◌≡◌, ap}
use Rattle.std.specs.Prelude.{refl, Bool, true, ltb, ℤ, length}
use Rattle.std.proofs.Common.{sym, ◌∙◌, arith}
use Rattle.std.proofs.Math.Bool.{false}
use mathlib.Core.List.{List, [], ◌∷◌, ◌++◌, append-nil, append_assoc}
use Rattle.std.proofs.Math.Option.{some, none}
use Prim.Native.Nat.{ℕ, zero, suc, ◌+◌, ◌/◌, ◌<◌, ◌≤◌}
use borrow.Author.Tests.{lt-ltb, le-ltb, le-leb, eq-eqb}
use Rattle.definitions.specs.Warnings.{ExcessSnapData}
use Rattle.definitions.specs.Outcome.{Outcome, return, require, warn_if, ◌>>=◌, ◌>>◌}
use Rattle.definitions.specs.Tables.{Item, Table, written, sound, list, size, count, edge, ends, key_at, item_at, items, in_form, table_of, find, insert}
use Rattle.definitions.specs.TableReading.{add_item, read_items, read_table}
use Rattle.laws.specs.OutcomeLaws.{return-bind, after_none}
use Rattle.laws.specs.TableShape.{Shape, shape, well-ends, keys-rise, start_first, start-within, size-aligned}
use Rattle.laws.specs.TableForm.{length-list, length-body, length-written, length-form}
use Rattle.laws.specs.TableFind.{find_none}
use Rattle.laws.specs.TableHeader.{header_read}
use Rattle.laws.specs.TableRoundTrip.{back}

-- an item goes after those with lesser keys
insert-behind : (i : Item) (f : ℕ → Item) (n : ℕ) (u : Table) → ((j : ℕ) → j < n → (f j).key < i.key) → insert i (list f n ++ u) ≡ list f n ++ insert i u
unfolding list
insert-behind i f zero u h = refl
insert-behind i f (suc n) u h =
    ap (insert i) (append_assoc (list f n) (f n ∷ []) u)
    ∙ insert-behind i f n (f n ∷ u) (λ j l. h j (omega arith))
    ∙ ap (λ (m : Table). list f n ++ m) (passes i (f n) u (h n (omega arith)))
    ∙ sym (append_assoc (list f n) (f n ∷ []) (insert i u))
  where
    passes : (i x : Item) (u : Table) → x.key < i.key → insert i (x ∷ u) ≡ x ∷ insert i u
    passes i x u h = unfold insert in rw (le-ltb i.key x.key (omega arith))

module _ (a : List ℤ) (h : Shape a) where
  -- the next item goes to the end
  grows : (i : ℕ) → i < count a → insert (item_at a i) (list (item_at a) i) ≡ list (item_at a) (suc i)
  unfolding list insert
  grows i l =
      ap (insert (item_at a i)) (sym (append-nil (list (item_at a) i)))
      ∙ insert-behind (item_at a i) (item_at a) i [] (λ j m. keys-rise a h j i m l)

  long : (i : ℕ) → i ≤ count a → length (written (list (item_at a) i)) ≤ 16384
  long i l =
      omega (arith, length-written (list (item_at a) i), length-list (item_at a) i, length-body a h i l, start-within a h i l, start_first a h, h.short)

  new : (i : ℕ) → i < count a → find (key_at a i) (list (item_at a) i) ≡ none
  new i l = find_none (item_at a) (key_at a i) i (λ j m e. let z : ⊥ = omega (arith, keys-rise a h j i m l) in z)

  adds : (i : ℕ) → i < count a → add_item (item_at a i) (list (item_at a) i) ≡ return (list (item_at a) (suc i))
  unfolding add_item
  adds i l =
      rw (new i l, lt-ltb (length (list (item_at a) i)) 1024 (omega (arith, length-list (item_at a) i, h.few)), grows i l, le-leb (length (written (list (item_at a) (suc i)))) 16384 (long (suc i) l))

  -- the first i items are read
  pub reads : (i : ℕ) → i ≤ count a → read_items a i ≡ return (list (item_at a) i)
  unfolding read_items list
  reads zero l = rw (eq-eqb (edge a 0) 0 h.first)
  reads (suc i) l =
      let s = h.step i l in
      ap (λ (o : Outcome Table). o >>= (λ t. require (ends a i) 12 >> add_item (item_at a i) t)) (reads i (omega arith))
      ∙ return-bind (list (item_at a) i) (λ t. require (ends a i) 12 >> add_item (item_at a i) t)
      ∙ rw (well-ends a i (record { aligned = s.aligned; rises = s.rises; within = s.within }))
      (after_none (add_item (item_at a i) (list (item_at a) i)) ∙ adds i l)

  -- an area in form is read as what it holds; ints after the form count a warning
  pub form-read : read_table a ≡ (warn_if (ltb (length (written (items a))) (length a)) ExcessSnapData >> return (items a))
  unfolding items
  form-read =
      header_read a (omega (arith, h.room)) (omega (arith, h.short)) (omega (arith, h.room)) (omega (arith, h.few)) (omega (arith, h.room)) (size-aligned a h) h.room
      ∙ ap (λ (o : Outcome Table). warn_if (ltb (2 + count a + size a / 4) (length a)) ExcessSnapData >> o) (reads (count a) (omega arith))
      ∙ ap (λ (n : ℕ). warn_if (ltb n (length a)) ExcessSnapData >> return (list (item_at a) (count a))) (sym (length-form a h ∙ refl))

-- what is known about an area that holds a table
pub holds : (a : List ℤ) (t : Table) → table_of a ≡ some t → Shape a × (items a ≡ t)
holds a t e = go (in_form a) refl
  where
    go : (b : Bool) → in_form a ≡ b → Shape a × (items a ≡ t)
    go true q =
        let r : table_of a ≡ some (items a) = unfold table_of in rw q in
        let d : items a ≡ t = cc in
        (shape a q, d)
    go false q =
        let r : table_of a ≡ none = unfold table_of in rw q in
        let z : ◌≡◌ {A = ℕ} 0 1 = cc in
        absurd (omega arith)

-- what is written is read back without a warning
pub read-written : (t : Table) → sound t ≡ true → read_table (written t) ≡ return t
read-written t s =
    let e : table_of (written t) ≡ some t = ap table_of (sym (append-nil (written t))) ∙ back t [] s in
    let k = holds (written t) t e in
    form-read (written t) k.0
    ∙ rw (k.1, le-ltb (length (written t)) (length (written t)) (omega arith))
