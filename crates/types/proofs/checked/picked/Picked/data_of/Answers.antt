-- `Picked::data_of` meets its contract: the ints between an item's key and the next item. Assumes nothing.
use native.Mathlib.Omega.{arith}
use Rattle.definitions.specs.Tables.{values_at}
use Rattle.types.proofs.Places.{placed}
use Rattle.types.proofs.checked.picked.Picked.data_of.Goals as goal

pub slice_bounds-result-count : goal.slice_bounds-result-count
slice_bounds-result-count c =
    let p = placed _ _ _ c.args.self.picks _ c.requires in
    omega (arith, p.begins, p.ends, p.rises, c.edge-2.ensures.0, c.edge.ensures.0)

pub slice_bounds-result-start : goal.slice_bounds-result-start
slice_bounds-result-start c =
    let p = placed _ _ _ c.args.self.picks _ c.requires in
    omega (arith, p.begins, p.ends, p.rises, p.inside, c.edge-2.ensures.0, c.edge.ensures.0)

pub slice_bounds-result-end : goal.slice_bounds-result-end
slice_bounds-result-end c =
    let p = placed _ _ _ c.args.self.picks _ c.requires in
    omega (arith, p.begins, p.ends, p.rises, p.inside, c.edge-2.ensures.0, c.edge.ensures.0)

pub returns : goal.returns
unfolding values_at
returns c =
    let p = placed _ _ _ c.args.self.picks _ c.requires in
    rw (c.edge-2.ensures.0, c.edge.ensures.0, p.begins, p.ends)
