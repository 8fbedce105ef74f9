use mathlib.Core.Path.{◌≡◌, refl, ◌∙◌}
use Prim.Native.Nat.{◌+◌, ◌<◌, ◌≤◌}
use native.Mathlib.Omega.{arith}
use lib.ListN.{length}
use mir.Facts.{to_z-of_z}
use Rattle.definitions.specs.Ints.{from_bits, sum}
use Rattle.definitions.specs.Tables.{list, items, values_at, all_values, start, count}
use Rattle.laws.specs.TableShape.{start_first, bounds}
use Rattle.table.proofs.SumLaws.{data-more}
use Rattle.std.proofs.Common.{w32}
use Rattle.table.proofs.checked.crc.Goals as goal
use Rattle.table.proofs.checked.crc.Goals.{In-loop-i, After-sum}

-- item i lies within the area
within : (c : In-loop-i) → let a = c.args.area.now in (c.loop-i.at < start a (c.loop-i.i + 1)) × (start a (c.loop-i.i + 1) ≤ length a) × (start a (c.loop-i.i + 1) ≤ 16384)
within c =
    let h = c.requires in
    let b = bounds c.args.area.now h.shape c.loop-i.i (omega (arith, h.count-is)) in
    (omega (arith, b.0, c.loop-i.invariant.0), b.1, b.2)

pub loop-i-init : goal.loop-i-init
unfolding list all_values from_bits
loop-i-init c =
    (omega (arith, start_first c.args.area.now c.requires.shape, c.requires.count-is), refl)

pub overflow_add-from : goal.overflow_add-from
overflow_add-from c = let w = within c in omega arith

pub offset_bounds-area-from : goal.offset_bounds-area-from
offset_bounds-area-from c = let w = within (goal.at.offset_bounds-area-from c).In-loop-i in omega (arith, c.start_at-to.ensures)

pub slice_bounds-sum-count : goal.slice_bounds-sum-count
slice_bounds-sum-count c = let w = within (goal.at.slice_bounds-sum-count c).In-loop-i in omega (arith, c.start_at-to.ensures)

pub slice_bounds-sum-start : goal.slice_bounds-sum-start
slice_bounds-sum-start c = let w = within (goal.at.slice_bounds-sum-start c).In-loop-i in omega (arith, c.start_at-to.ensures)

pub slice_bounds-sum-end : goal.slice_bounds-sum-end
slice_bounds-sum-end c = let w = within (goal.at.slice_bounds-sum-end c).In-loop-i in omega (arith, c.start_at-to.ensures)

-- the part is the item's data
part-is : (c : After-sum) → c.sum.result ≡ sum (values_at c.args.area.now c.loop-i.i)
unfolding values_at
part-is c =
    c.sum.ensures ∙ rw (c.start_at-to.ensures, c.loop-i.invariant.0)

pub loop-i-preserved : goal.loop-i-preserved
unfolding from_bits
loop-i-preserved c = (
  c.start_at-to.ensures,
  rw (to_z-of_z {w = w32} (record { sfits = c.wrapping_add-total.type_inv }))
      (c.wrapping_add-total.ensures
      ∙ rw (to_z-of_z {w = w32} (record { sfits = c.sum.type_inv }), c.loop-i.invariant.1, part-is (goal.at.loop-i-preserved c).After-sum)
      (data-more c.args.area.now c.loop-i.i)),
)

pub returns : goal.returns
unfolding from_bits items
returns c =
    let e : c.loop-i.i ≡ count c.args.area.now = omega (arith, c.requires.count-is) in
    c.loop-i.invariant.1 ∙ rw e
