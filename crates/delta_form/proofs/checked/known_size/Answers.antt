-- `checked::known_size` meets its contract: by whether the list is long enough. Assumes nothing.
use native.Mathlib.Omega.{arith}
use Rattle.delta_form.proofs.Sizes.{listed, not_listed}
use Rattle.delta_form.proofs.checked.known_size.Goals as goal

pub returns-then-raw_type_id-sizes : goal.returns-then-raw_type_id-sizes
returns-then-raw_type_id-sizes c = let e = c.nat_at.ensures in (listed _ _ _ c.if-raw_type_id-sizes.true e.0 e.2, e.1)

pub returns : goal.returns
returns c = (not_listed _ _ c.if-raw_type_id-sizes.false, omega arith)
