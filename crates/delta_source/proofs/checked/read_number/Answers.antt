-- `checked::read_number` meets its contract: step by step as the definition. Assumes nothing.
use Rattle.std.proofs.Common.{SFits}
use borrow.Author.Rules.{rules}
use mathlib.Core.Path.{◌≡◌}
use lib.IntN.{nat_abs}
use mir.Syntax.{w32}
use mir.Facts.{to_z-of_z}
use Rattle.std.specs.Int.{FitsUnsignedBits}
use Rattle.definitions.specs.Refusals.{unexpected_end}
use Rattle.delta_source.proofs.Nexts.{missing-as}
use Rattle.delta_source.proofs.Reading.{is-count, is-negative}
use Rattle.delta_source.proofs.Heading.{no_number, negative-number, number_read}
use Rattle.delta_source.proofs.checked.read_number.Goals as goal

pub returns-in_default : goal.returns-in_default
returns-in_default c =
    let e = c.in_default.is in
    no_number _ c.args.at _ (rw e at c.next_int-read.ensures) (missing-as unexpected_end c.missing.ensures e)

pub returns-in_default-try_from : goal.returns-in_default-try_from
returns-in_default-try_from c =
    let x = c.in-Ok.int.value in
    let f = (let it : SFits w32 x = search rules in it).sfits in
    let h : FitsUnsignedBits 64 x → ⊥ = rw (to_z-of_z {w = w32} {z = x} (record { sfits = f })) at c.in_default-try_from.ensures in
    rw c.one_if-overlong.ensures
    (negative-number _ c.args.at (rw c.in-Ok.is at c.next_int-read.ensures) f (is-negative x f h))

pub returns : goal.returns
returns c =
    let x = c.in-Ok.int.value in
    let f = (let it : SFits w32 x = search rules in it).sfits in
    let h : FitsUnsignedBits 64 x × (c.in-Ok-try_from.value ≡ nat_abs x) =
    rw (to_z-of_z {w = w32} {z = x} (record { sfits = f })) at c.in-Ok-try_from.ensures in
    let k = is-count x f h.0 in
    rw (h.1, k.0, c.one_if-overlong.ensures)
    (number_read _ c.args.at (rw c.in-Ok.is at c.next_int-read.ensures) k.1)
