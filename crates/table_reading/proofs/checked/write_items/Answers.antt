use mathlib.Core.Path.{◌≡◌, sym, ap, ◌∙◌}
use mathlib.Core.List.{◌∷◌}
use Prim.Native.Nat.{ℕ, suc, ◌<◌, ◌+◌, ◌-◌, ◌/◌}
use native.Mathlib.Omega.{arith}
use lib.ListN.{length, get_or}
use lib.Seq.{get_or-take}
use Rattle.definitions.specs.Ints.{from_bits}
use Rattle.definitions.specs.Areas.{lay_at}
use Rattle.definitions.specs.Tables.{edge, body, key_at, values_at}
use Rattle.laws.specs.AreaLaws.{lay_at-nothing}
use Rattle.ints.specs.Copies.{copied}
use Rattle.table_reading.proofs.Laying.{length-l, body-long, within, part-inside, part-is, to_is, less-behind, items-turn, none_left}
use Rattle.table_reading.proofs.checked.write_items.Goals as goal
use Rattle.table_reading.proofs.checked.write_items.Goals.{After-edge-in-loop-number}

-- the numbers are those of the n items
counted : (c : After-edge-in-loop-number) → c.loop-number.number-index < c.args.n
counted c = omega (arith, length-l _ _ _ _ c.requires.indexed)

-- where the item begins and ends
ends_at : (c : After-edge-in-loop-number) → let k = get_or c.args.index.now c.loop-number.number-index 0 in (c.edge.result ≡ edge c.args.src.now k) × (c.edge-in-loop-number.result ≡ edge c.args.src.now (k + 1))
ends_at c =
    let e = get_or-take c.args.n c.args.index.now c.loop-number.number-index 0 (counted c) in
    (c.edge.ensures.0 ∙ ap (edge c.args.src.now) e, c.edge-in-loop-number.ensures.0 ∙ ap (λ (k : ℕ). edge c.args.src.now (k + 1)) e)

pub slice_bounds-copy_into-count : goal.slice_bounds-copy_into-count
slice_bounds-copy_into-count c =
    let x = c.requires.indexed in
    let j = c.loop-number.number-index in
    let k = get_or c.args.index.now j 0 in
    let i = x.within j (counted (goal.at.slice_bounds-copy_into-count c).After-edge-in-loop-number) in
    let v = within _ _ _ _ x k i in
    let e = ends_at (goal.at.slice_bounds-copy_into-count c).After-edge-in-loop-number in
    omega (arith, e.0, e.1, part-inside _ _ _ _ x k i)

pub slice_bounds-copy_into-start : goal.slice_bounds-copy_into-start
slice_bounds-copy_into-start c =
    let x = c.requires.indexed in
    let j = c.loop-number.number-index in
    let k = get_or c.args.index.now j 0 in
    let i = x.within j (counted (goal.at.slice_bounds-copy_into-start c).After-edge-in-loop-number) in
    let v = within _ _ _ _ x k i in
    let e = ends_at (goal.at.slice_bounds-copy_into-start c).After-edge-in-loop-number in
    omega (arith, e.0, e.1, part-inside _ _ _ _ x k i)

pub slice_bounds-copy_into-end : goal.slice_bounds-copy_into-end
slice_bounds-copy_into-end c =
    let x = c.requires.indexed in
    let j = c.loop-number.number-index in
    let k = get_or c.args.index.now j 0 in
    let i = x.within j (counted (goal.at.slice_bounds-copy_into-end c).After-edge-in-loop-number) in
    let v = within _ _ _ _ x k i in
    let e = ends_at (goal.at.slice_bounds-copy_into-end c).After-edge-in-loop-number in
    omega (arith, e.0, e.1, part-inside _ _ _ _ x k i)

pub overflow_sub-at : goal.overflow_sub-at
overflow_sub-at c =
    let x = c.requires.indexed in
    let j = c.loop-number.number-index in
    let k = get_or c.args.index.now j 0 in
    let i = x.within j (counted (goal.at.overflow_sub-at c).After-edge-in-loop-number) in
    let v = within _ _ _ _ x k i in
    let e = ends_at (goal.at.overflow_sub-at c).After-edge-in-loop-number in
    omega (arith, e.0, e.1, to_is _ _ _ _ x k i)

pub loop-number-preserved : goal.loop-number-preserved
loop-number-preserved c =
    let x = c.requires.indexed in
    let l = c.loop-number in
    let j = l.number-index in
    let h = counted (goal.at.loop-number-preserved c).After-edge-in-loop-number in
    let k = get_or c.args.index.now j 0 in
    let i = x.within j h in
    let e = ends_at (goal.at.loop-number-preserved c).After-edge-in-loop-number in
    let m = body-long _ _ _ _ x in
    let far : 2 + c.args.n + c.edge-in-loop-number.result / 4 - (2 + c.args.n + c.edge.result / 4) ≡ suc (length (values_at c.args.src.now k)) =
    rw (e.0, e.1) (omega (arith, to_is _ _ _ _ x k i)) in
    let o : c.copy_into.new.out ≡ lay_at l.at (from_bits (key_at c.args.src.now k) ∷ values_at c.args.src.now k) l.out =
    copied l.out l.at _ _ _ _ c.copy_into.ensures (rw (e.0, e.1) (part-is _ _ _ _ x k i))
    (omega (arith, less-behind _ _ _ _ x j h l.at _ l.invariant.0, l.auto.out, c.requires.fits)) in (
      rw far (less-behind _ _ _ _ x j h l.at _ l.invariant.0),
      rw (far, o) (sym (items-turn _ _ _ _ x j h l.at l.out) ∙ l.invariant.1),
    )

pub returns : goal.returns
unfolding body
returns c =
    let x = c.requires.indexed in
    let l = c.loop-number in
    let e = none_left _ _ _ _ x l.number-index (omega (arith, length-l _ _ _ _ x)) in
    sym (lay_at-nothing l.at l.out) ∙ (rw e at l.invariant.1)
