-- `checked::read_table` meets its contract: by the test of the form, and then by the room. Assumes nothing.
use mathlib.Core.Path.{◌≡◌, sym, ◌∙◌}
use Prim.Native.Nat.{ℕ}
use mathlib.Core.Bool.{Bool}
use mathlib.Core.List.{List}
use lib.IntN.{ℤ}
use lib.ListN.{take}
use Rattle.definitions.specs.Outcome.{return}
use Rattle.definitions.specs.Stored.{stored}
use Rattle.definitions.specs.Tables.{table_of}
use Rattle.format.specs.declared.Error.TheVariants as error
use Rattle.table.specs.Held.{form_of}
use Rattle.std.specs.Prelude.{Ok, Err, Some}
use Rattle.ints.specs.Copies.{copy_at, stored_by, copy_stored}
use Rattle.table.specs.Writing.{form-length}
use Rattle.table_reading.proofs.Outcomes.{form-stored}
use Rattle.table_reading.proofs.checked.read_table.Goals as goal

-- the copy stores the ints of a table in form
copied : (src out after : List ℤ) (items n : ℕ) (b : Bool) → Some (record { items = items; ints = n }) ≡ form_of (table_of src) → copy_at out 0 (take n src) ≡ record { fits = b; out = after }
    → stored out (return (take n src)) ≡ stored_by n (record { fits = b; out = after })
copied src out after items n b told e = copy_stored out (take n src) ∙ rw (e, ← form-length src told)

pub slice_bounds-copy_into-end : goal.slice_bounds-copy_into-end
slice_bounds-copy_into-end c = form-length c.args.src.now (sym c.in-Some.is ∙ c.form.ensures)

pub returns-then-copy_into : goal.returns-then-copy_into
returns-then-copy_into c =
    let told = sym c.in-Some.is ∙ c.form.ensures in
    form-stored c.args.src.now told _ _ (Ok c.in-Some.table.ints) (rw c.if-copy_into.true at (copied c.args.src.now c.args.out.now _ _ _ _ told c.copy_into.ensures))

pub returns : goal.returns
returns c =
    let told = sym c.in-Some.is ∙ c.form.ensures in
    form-stored c.args.src.now told _ _ (Err error.CapacityError) (rw c.if-copy_into.false at (copied c.args.src.now c.args.out.now _ _ _ _ told c.copy_into.ensures))
