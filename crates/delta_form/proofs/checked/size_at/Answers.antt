-- `checked::size_at` meets its contract: by whether a size is known. Assumes nothing.
use mathlib.Core.Path.{◌∙◌}
use native.Mathlib.Omega.{arith}
use Rattle.delta_form.proofs.Sizes.{data-unknown, size-known, size-unknown}
use Rattle.delta_form.proofs.checked.size_at.Goals as goal

pub returns-then-size-lt4294967296 : goal.returns-then-size-lt4294967296
returns-then-size-lt4294967296 c =
    (size-known _ _ _ _ _ c.nat_at.ensures.0 c.known_size-size.ensures.0 c.if-size-lt4294967296.true, c.known_size-size.ensures.1)

pub nat_at-requires-2 : goal.nat_at-requires-2
nat_at-requires-2 c =
    omega (arith, data-unknown _ _ _ _ _ c.nat_at.ensures.0 c.known_size-size.ensures.0 c.if-size-lt4294967296.false, c.requires.1)

pub returns : goal.returns
returns c =
    let e = c.nat_at-2.ensures in
    (e.0 ∙ size-unknown _ _ _ _ _ c.nat_at.ensures.0 c.known_size-size.ensures.0 c.if-size-lt4294967296.false, e.1)
