-- `checked::next_update` meets its contract. Assumes nothing.
use Prim.Native.Nat.{◌+◌}
use mathlib.Core.Path.{◌≡◌}
use mathlib.Core.List.{[]}
use native.Mathlib.Omega.{arith}
use Rattle.definitions.specs.Deltas.{update_end}
use Rattle.laws.specs.DeltaShape.{area-data}
use Rattle.delta_form.proofs.checked.next_update.Goals as goal
use Rattle.delta_form.proofs.checked.next_update.Goals.{After-update_size}

next-is : (c : After-update_size) → c.args.p + 3 + c.update_size.result ≡ update_end [] c.args.area.now c.args.p
unfolding update_end
next-is c = omega (arith, c.update_size.ensures.0, area-data c.args.area.now c.args.p)

pub returns : goal.returns
returns c = next-is c
