-- `checked::names` meets its contract, by what is known of each entry. It cites no call, so that right bodies by `any` prove as well. Assumes nothing.
use native.Mathlib.Omega.{arith}
use Rattle.rules.proofs.Turns.{elem-entry, elem-place}
use Rattle.rules.proofs.checked.names.Goals as goal

pub returns : goal.returns
returns c = grind (arith, elem-entry, elem-place)
