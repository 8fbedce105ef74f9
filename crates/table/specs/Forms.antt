-- What the answer of the form test means. Assumes nothing.
use Rattle.std.specs.Prelude.{Some, None, ℕ, ◌+◌, ◌/◌, refl, Bool, true, false, List, ℤ, length}
use Rattle.std.proofs.Common.{arith, sym, ap, ◌∙◌}
use Rattle.std.proofs.Math.Path.{◌≡◌}
use Rattle.std.proofs.Math.Option.{some, none}
use Rattle.definitions.specs.Tables.{written, table_of, items, in_form, count, size}
use Rattle.laws.specs.TableShape.{Shape, shape, some_is, none_is}
use Rattle.laws.specs.TableForm.{length-items, length-form}
use Rattle.table.specs.Held.{form_of, Held}
use Rattle.table.specs.declared.checked.TableForm.{TableForm}

module _ (a : List ℤ) where
  pub bad : (Shape a → ⊥) → None ≡ form_of (table_of a)
  bad h = rw (none_is a h)

  pub good : (n k : ℕ) → Shape a → n ≡ count a → k ≡ 2 + count a + size a / 4 → Some (record { items = n; ints = k }) ≡ form_of (table_of a)
  good n k h p q = rw (some_is a h, p ∙ sym (length-items a h), q ∙ sym (length-form a h))

  -- what the answer of `form` means
  pub formed : (n k : ℕ) → Some (record { items = n; ints = k }) ≡ form_of (table_of a) → Held a n × (k ≡ 2 + count a + size a / 4)
  formed n k e = go (in_form a) refl
    where
      go : (b : Bool) → in_form a ≡ b → Held a n × (k ≡ 2 + count a + size a / 4)
      go true q =
          let h = shape a q in
          let d : Some (record { items = n; ints = k }) ≡ form_of (some (items a)) = rw (some_is a h) at e in
          let r : ◌≡◌ {A = TableForm} (record { items = n; ints = k }) (record { items = length (items a); ints = length (written (items a)) }) = cc in
          let dn : n ≡ length (items a) = ap (λ (f : TableForm). f.items) r in
          let dk : k ≡ length (written (items a)) = ap (λ (f : TableForm). f.ints) r in
          (record { count-is = dn ∙ length-items a h; shape = h }, dk ∙ length-form a h)
      go false q =
          let r : table_of a ≡ none = unfold table_of in rw q in
          let d : Some (record { items = n; ints = k }) ≡ form_of none = rw r at e in
          let z : ◌≡◌ {A = ℕ} 0 1 = cc in absurd (omega arith)

  pub unformed : None ≡ form_of (table_of a) → table_of a ≡ none
  unformed e = go (in_form a) refl
    where
      go : (b : Bool) → in_form a ≡ b → table_of a ≡ none
      go true q =
          let d : None ≡ form_of (some (items a)) = rw (some_is a (shape a q)) at e in
          let z : ◌≡◌ {A = ℕ} 0 1 = cc in absurd (omega arith)
      go false q = unfold table_of in rw q
