-- `checked::data_at` meets its contract: by whether a size is known. Assumes nothing.
use native.Mathlib.Omega.{arith}
use Rattle.delta_form.proofs.Sizes.{data-known, data-unknown}
use Rattle.delta_form.proofs.checked.data_at.Goals as goal

pub returns-then-known_size-lt4294967296 : goal.returns-then-known_size-lt4294967296
returns-then-known_size-lt4294967296 c =
    (data-known _ _ _ _ _ c.nat_at.ensures.0 c.known_size.ensures.0 c.if-known_size-lt4294967296.true, omega arith, omega arith)

pub returns : goal.returns
returns c =
    (data-unknown _ _ _ _ _ c.nat_at.ensures.0 c.known_size.ensures.0 c.if-known_size-lt4294967296.false, omega arith, omega arith)
