-- `checked::tick_at` meets its contract: the first int at the table's place. Assumes nothing.
use Rattle.store_area.proofs.Steps.{here}
use Rattle.store_area.specs.Held.{snaps_in, snap_at}
use Rattle.store_area.proofs.Places.{Entry}
use mathlib.Core.Path.{◌∙◌}
use mir.Facts.{to_z-of_z}
use mir.Syntax.{w32}
use native.Mathlib.Omega.{arith}
use Rattle.store_area.proofs.checked.tick_at.Goals as goal
use Rattle.store_area.proofs.checked.tick_at.Lts as lts
use Rattle.store_area.proofs.checked.tick_at.Tie as tie
use Rattle.store_area.proofs.checked.tick_at.Reads as reads

abbrev After-place-p : Type 0
After-place-p = lts.After-place tie.the-claims reads.Pre reads.Post

-- the table is here
stands : (c : After-place-p) → let s = c.args in Entry s.area.now c.place-p.result (snap_at (snaps_in s.count s.area.now) s.i)
stands c =
    let s = c in
    here s.args.area.now s.args.count s.requires.0 s.args.i c.place-p.result s.requires.1 c.place-p.ensures

pub offset_bounds-area-p : goal.offset_bounds-area-p
offset_bounds-area-p c = let e = stands c in omega (arith, e.room)

pub bounds-area-p : goal.bounds-area-p
bounds-area-p c = let e = stands c in omega (arith, e.room)

pub returns : goal.returns
returns c = to_z-of_z {w = w32} (record { sfits = c.result-1.given }) ∙ (stands c.before).tick_is
