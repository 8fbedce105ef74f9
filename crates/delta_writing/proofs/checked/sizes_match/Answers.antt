use native.Mathlib.Omega.{arith}
use Prim.Native.Nat.{◌+◌, ◌-◌, ◌<◌}
use mathlib.Core.Path.{sym, ap, ◌∙◌, ◌≡◌}
use borrow.Author.Tests.{not-true, not-false}
use Rattle.definitions.specs.DeltaCalls.{sizes_match}
use Rattle.laws.specs.DeltaShape.{first-update, other-updates}
use Rattle.delta_writing.proofs.Matching.{none_left, unmatched, matched, updates-held}
use Rattle.delta_writing.proofs.checked.sizes_match.Goals as goal

pub returns-then-not-size_matches : goal.returns-then-not-size_matches
returns-then-not-size_matches c =
    let s = c.args in
    let l = c.loop in
    let u = first-update l.invariant.0 (omega arith) in
    unmatched s.sizes.now s.area.now l.p u (c.args.updated - c.loop.counter) (omega arith) (sym (not-true _ c.if-not-size_matches.true-raw) ∙ c.size_matches.ensures)
    ∙ (l.invariant.1 ∙ ap (sizes_match s.sizes.now) (updates-held _ _ _ c.requires))

pub loop-preserved : goal.loop-preserved
loop-preserved c =
    let step : c.args.updated - (c.loop.counter + 1) ≡ c.args.updated - c.loop.counter - 1 = omega arith in
    rw step
    (let s = c.args in
    let l = c.loop in
    let t : 0 < c.args.updated - c.loop.counter = omega arith in
    let e = c.next_update-p.ensures in (
      rw e (other-updates l.invariant.0 t),
      matched s.sizes.now s.area.now l.p (first-update l.invariant.0 t) (c.args.updated - c.loop.counter) _ t (sym (not-false _ c.if-not-size_matches.false-raw) ∙ c.size_matches.ensures) e
          ∙ l.invariant.1,
    ))

pub returns : goal.returns
returns c =
    let s = c.args in
    let l = c.loop in
    none_left s.sizes.now s.area.now l.p (c.args.updated - c.loop.counter) (omega arith)
    ∙ (l.invariant.1 ∙ ap (sizes_match s.sizes.now) (updates-held _ _ _ c.requires))
