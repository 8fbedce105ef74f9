-- `checked::key_at` meets its contract: the int where the item begins. Assumes nothing.
use Prim.Native.Nat.{◌<◌}
use native.Mathlib.Omega.{arith}
use lib.ListN.{length}
use mir.Facts.{to_z-of_z}
use Rattle.definitions.specs.Tables.{key_at}
use Rattle.laws.specs.TableShape.{bounds}
use Rattle.std.proofs.Common.{w32}
use Rattle.table.proofs.checked.key_at.Goals as goal
use Rattle.table.proofs.checked.key_at.Lts as lts
use Rattle.table.proofs.checked.key_at.Tie as tie
use Rattle.table.proofs.checked.key_at.Reads as reads

abbrev After-key_place-at : Type 0
After-key_place-at = lts.After-key_place tie.the-claims reads.Pre reads.Post

within : (c : After-key_place-at) → c.key_place-at.result < length c.args.area.now
within c =
    let h = c.requires in
    let b = bounds c.args.area.now h.0.shape c.args.i (omega (arith, h.0.count-is, h.1)) in
    omega (arith, c.key_place-at.ensures)

pub offset_bounds-area-at : goal.offset_bounds-area-at
offset_bounds-area-at c = let b = within c in omega arith

pub bounds-area-at : goal.bounds-area-at
bounds-area-at c = let b = within c in omega arith

pub returns : goal.returns
unfolding key_at
returns c = rw (to_z-of_z {w = w32} (record { sfits = c.result-1.given }), c.key_place-at.ensures)
