use mathlib.Core.Path.{◌≡◌, sym, ap, ap₂, ◌∙◌}
use Prim.Native.Nat.{ℕ, ◌+◌, ◌-◌, ◌<◌}
use native.Mathlib.Omega.{arith}
use lib.ListN.{length, get_or}
use lib.Seq.{get_or-take}
use Rattle.definitions.specs.Tables.{offsets, edge}
use Rattle.laws.specs.AreaLaws.{lay_at-nothing}
use Rattle.table_reading.proofs.Laying.{length-l, within, less-left, offset-turn, none_left}
use Rattle.table_reading.proofs.checked.write_offsets.Goals as goal
use Rattle.table_reading.proofs.checked.write_offsets.Goals.{After-edge-in-loop-j}

-- the numbers are those of the n items
counted : (c : After-edge-in-loop-j) → c.loop-j.j < c.args.n
counted c = omega (arith, length-l _ _ _ _ c.requires.indexed)

-- where the item ends and begins
ends_at : (c : After-edge-in-loop-j) → let k = get_or c.args.index.now c.loop-j.j 0 in (c.edge.result ≡ edge c.args.src.now (k + 1)) × (c.edge-in-loop-j.result ≡ edge c.args.src.now k)
ends_at c =
    let e = get_or-take c.args.n c.args.index.now c.loop-j.j 0 (counted c) in
    (c.edge.ensures.0 ∙ ap (λ (k : ℕ). edge c.args.src.now (k + 1)) e, c.edge-in-loop-j.ensures.0 ∙ ap (edge c.args.src.now) e)

pub overflow_sub-offset : goal.overflow_sub-offset
overflow_sub-offset c =
    let x = c.requires.indexed in
    let v = within _ _ _ _ x (get_or c.args.index.now c.loop-j.j 0) (x.within c.loop-j.j (counted (goal.at.overflow_sub-offset c).After-edge-in-loop-j)) in
    let e = ends_at (goal.at.overflow_sub-offset c).After-edge-in-loop-j in
    omega (arith, e.0, e.1)

pub loop-j-preserved : goal.loop-j-preserved
loop-j-preserved c =
    let x = c.requires.indexed in
    let l = c.loop-j in
    let h = counted (goal.at.loop-j-preserved c).After-edge-in-loop-j in
    let k = get_or c.args.index.now l.j 0 in
    let p = ends_at (goal.at.loop-j-preserved c).After-edge-in-loop-j in
    let e : c.edge.result - c.edge-in-loop-j.result ≡ edge c.args.src.now (k + 1) - edge c.args.src.now k = ap₂ (λ (u v : ℕ). u - v) p.0 p.1 in
    let r : 2 + l.j < length l.out = omega (arith, h, c.requires.fits, l.auto.out) in (
      rw e (less-left _ _ _ _ x l.j h l.offset _ l.invariant.0),
      rw (e, c.put.ensures) (sym (offset-turn _ _ _ _ x l.j h l.offset l.out r) ∙ l.invariant.1),
    )

pub returns : goal.returns
unfolding offsets
returns c =
    let x = c.requires.indexed in
    let l = c.loop-j in
    let e = none_left _ _ _ _ x l.j (omega (arith, length-l _ _ _ _ x)) in
    sym (lay_at-nothing (2 + l.j) l.out) ∙ (rw e at l.invariant.1)
