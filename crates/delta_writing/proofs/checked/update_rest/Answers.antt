-- `checked::update_rest` meets its contract: by whether the size is known. Assumes nothing.
use Prim.Native.Nat.{◌+◌, ◌≤◌}
use mathlib.Core.Path.{sym}
use native.Mathlib.Omega.{arith}
use Rattle.laws.specs.DeltaShape.{area-end}
use Rattle.laws.specs.DeltaWriting.{rest-known, rest-unknown}
use Rattle.delta_form.specs.Forms.{is_known, is-unknown}
use Rattle.delta_writing.proofs.checked.update_rest.Goals as goal
use Rattle.delta_writing.proofs.checked.update_rest.Goals.{After-next_update-end}

-- the update has at least three ints
far : (c : After-next_update-end) → c.args.p + 3 ≤ c.next_update-end.result
far c = omega (arith, c.next_update-end.ensures, area-end c.args.area.now c.args.p)

pub slice_bounds-result-count : goal.slice_bounds-result-count
slice_bounds-result-count c = omega (arith, far c.before.before.before)

pub slice_bounds-result-start : goal.slice_bounds-result-start
slice_bounds-result-start c = omega (arith, far c.before.before.before)

pub returns-then-known_size-lt4294967296 : goal.returns-then-known_size-lt4294967296
returns-then-known_size-lt4294967296 c =
    let s = c.args in
    rw c.next_update-end.ensures
    (sym (rest-known s.sizes.now s.area.now s.p c.requires _ (is_known _ _ c.nat_at.ensures.0 c.known_size.ensures.0 c.if-known_size-lt4294967296.true)))

pub slice_bounds-result-count-2 : goal.slice_bounds-result-count-2
slice_bounds-result-count-2 c = omega (arith, far c.before.before.before)

pub slice_bounds-result-start-2 : goal.slice_bounds-result-start-2
slice_bounds-result-start-2 c = omega (arith, far c.before.before.before)

pub returns : goal.returns
returns c =
    let s = c.args in
    rw c.next_update-end.ensures
    (sym (rest-unknown s.sizes.now s.area.now s.p c.requires (is-unknown _ _ c.nat_at.ensures.0 c.known_size.ensures.0 c.if-known_size-lt4294967296.false)))
