-- `format::create_item_delta` meets its contract. Assumes nothing.
use mathlib.Core.Path.{◌≡◌, sym, ap, ◌∙◌}
use native.Mathlib.Omega.{arith}
use borrow.Author.Tests.{eq-eqb, ne_eqb}
use lib.ListN.{length}
use Rattle.definitions.specs.Ints.{wrapping_sub}
use Rattle.definitions.specs.DeltaMaking.{zip_with}
use Rattle.ints.specs.Copies.{stored_by, copy_stored}
use Rattle.laws.specs.ZipLaws.{length-zip_with}
use Rattle.format.proofs.ItemDeltas.{refused-10, refused-40, done}
use Rattle.format.proofs.create_item_delta.Goals as goal

pub returns-then-from-to : goal.returns-then-from-to
returns-then-from-to c =
    let s = c.args in
    rw c.if-has_from.true (refused-10 s.out.now _ _ (ne_eqb (length s.from.now) (length s.to.now) c.if-from-to.true))

pub returns-then-out-to : goal.returns-then-out-to
returns-then-out-to c =
    let s = c.args in
    let e : length s.from.now ≡ length s.to.now = c.if-from-to.false in
    let n : length (zip_with wrapping_sub s.to.now s.from.now) ≡ length s.to.now = length-zip_with wrapping_sub s.to.now s.from.now (sym e) in
    rw c.if-has_from.true (refused-40 s.out.now _ _ (eq-eqb (length s.from.now) (length s.to.now) e) (omega arith))

pub returns-then-has_from : goal.returns-then-has_from
returns-then-has_from c =
    let s = c.args in
    let e : length s.from.now ≡ length s.to.now = c.if-from-to.false in
    let n : length (zip_with wrapping_sub s.to.now s.from.now) ≡ length s.to.now = length-zip_with wrapping_sub s.to.now s.from.now (sym e) in
    rw c.if-has_from.true (done s.out.now _ _ (eq-eqb (length s.from.now) (length s.to.now) e) (length s.to.now) _ n (omega arith) c.sub_into.ensures)

pub returns-then-copy_into : goal.returns-then-copy_into
returns-then-copy_into c =
    let s = c.args in
    let e = rw c.if-copy_into.true at c.copy_into.ensures in
    rw c.if-has_from.false (copy_stored s.out.now s.to.now ∙ ap (stored_by (length s.to.now)) e)

pub returns : goal.returns
returns c =
    let s = c.args in
    let e = rw c.if-copy_into.false at c.copy_into.ensures in
    rw c.if-has_from.false (copy_stored s.out.now s.to.now ∙ ap (stored_by (length s.to.now)) e)
