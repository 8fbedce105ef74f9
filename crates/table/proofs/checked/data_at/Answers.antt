-- `checked::data_at` meets its contract: the ints between the key and the next item. Assumes nothing.
use Prim.Native.Nat.{◌+◌, ◌<◌, ◌≤◌}
use native.Mathlib.Omega.{arith}
use lib.ListN.{length}
use Rattle.definitions.specs.Tables.{start, values_at}
use Rattle.laws.specs.TableShape.{bounds}
use Rattle.table.proofs.checked.data_at.Goals as goal
use Rattle.table.proofs.checked.data_at.Lts as lts
use Rattle.table.proofs.checked.data_at.Tie as tie
use Rattle.table.proofs.checked.data_at.Reads as reads

abbrev Start : Type 0
Start = lts.Start tie.the-claims reads.Pre reads.Post

-- the item lies within the area
within : (s : Start) → let a = s.args.area.now in let i = s.args.i in (start a i < start a (i + 1)) × (start a (i + 1) ≤ length a) × (start a (i + 1) ≤ 16384)
within s =
    let h = s.requires in
    bounds s.args.area.now h.0.shape s.args.i (omega (arith, h.0.count-is, h.1))

pub overflow_add-from : goal.overflow_add-from
overflow_add-from c = let b = within c.before in omega (arith, c.key_place-from.ensures)

pub offset_bounds-area-from : goal.offset_bounds-area-from
offset_bounds-area-from c = let b = within c.before.before in omega (arith, c.start_at-to.ensures, c.key_place-from.ensures)

pub slice_bounds-result-count : goal.slice_bounds-result-count
slice_bounds-result-count c = let b = within c.before.before in omega (arith, c.start_at-to.ensures, c.key_place-from.ensures)

pub slice_bounds-result-start : goal.slice_bounds-result-start
slice_bounds-result-start c = let b = within c.before.before in omega (arith, c.start_at-to.ensures, c.key_place-from.ensures)

pub slice_bounds-result-end : goal.slice_bounds-result-end
slice_bounds-result-end c = let b = within c.before.before in omega (arith, c.start_at-to.ensures, c.key_place-from.ensures)

pub returns : goal.returns
unfolding values_at
returns c = rw (c.start_at-to.ensures, c.key_place-from.ensures)
