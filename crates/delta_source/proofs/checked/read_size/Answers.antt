-- `checked::read_size` meets its contract: step by step as the definition. Assumes nothing.
use Rattle.std.proofs.Common.{SFits}
use borrow.Author.Rules.{rules}
use mathlib.Core.Path.{◌≡◌, refl}
use lib.IntN.{nat_abs}
use mir.Syntax.{w32}
use mir.Facts.{to_z-of_z}
use Rattle.std.specs.Int.{FitsUnsignedBits}
use Rattle.definitions.specs.Ints.{bits}
use Rattle.definitions.specs.Refusals.{item_diffs_unpacking}
use Rattle.delta_source.proofs.Nexts.{missing-as}
use Rattle.delta_source.proofs.Reading.{is-count, is-negative, no_size, size-negative, size-read}
use Rattle.delta_source.proofs.checked.read_size.Goals as goal

pub returns-in_default : goal.returns-in_default
returns-in_default c =
    let a = c.args in
    let e = c.in_default.is in
    no_size _ a.at (bits a.key) a.overlong _ (rw e at c.next_int-read.ensures) (missing-as item_diffs_unpacking c.missing.ensures e)

pub returns-in_default-try_from : goal.returns-in_default-try_from
returns-in_default-try_from c =
    let a = c.args in
    let x = c.in-Ok.int.value in
    let f = (let it : SFits w32 x = search rules in it).sfits in
    let h : FitsUnsignedBits 64 x → ⊥ = rw (to_z-of_z {w = w32} {z = x} (record { sfits = f })) at c.in_default-try_from.ensures in
    rw c.one_if.ensures
    (size-negative _ a.at (bits a.key) a.overlong (rw c.in-Ok.is at c.next_int-read.ensures) f (is-negative x f h))

pub returns : goal.returns
returns c =
    let a = c.args in
    let x = c.in-Ok.int.value in
    let f = (let it : SFits w32 x = search rules in it).sfits in
    let h : FitsUnsignedBits 64 x × (c.in-Ok-try_from.size ≡ nat_abs x) =
    rw (to_z-of_z {w = w32} {z = x} (record { sfits = f })) at c.in-Ok-try_from.ensures in
    let k = is-count x f h.0 in
    rw (to_z-of_z {w = w32} c.ranges.key, h.1, k.0, c.one_if.ensures)
    (size-read _ a.at (bits a.key) a.overlong refl (rw c.in-Ok.is at c.next_int-read.ensures) k.1)
