-- `packer::pack` meets its contract: by the room. Assumes nothing.
use mathlib.Core.Path.{sym, ◌∙◌}
use borrow.Author.Tests.{leb-true, leb-false}
use Rattle.definitions.specs.Warnings.{none}
use Rattle.definitions.specs.Packed.{pack_ints}
use Rattle.laws.specs.PackLaws.{stored-full}
use Rattle.packer.proofs.Packing.{packed-is}
use Rattle.packer.proofs.pack.Goals as goal

pub returns-then-packs_into : goal.returns-then-packs_into
returns-then-packs_into c =
    let a = c.args in
    let e = c.pack_at.ensures in
    packed-is a.src.now a.out.now _ _ (leb-true _ _ (sym c.packs_into.ensures ∙ c.if-packs_into.true)) e.0 e.1

pub returns : goal.returns
returns c =
    let a = c.args in
    stored-full (pack_ints a.src.now) a.out.now none
    (leb-false _ _ (sym c.packs_into.ensures ∙ c.if-packs_into.false))
