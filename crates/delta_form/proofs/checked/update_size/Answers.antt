-- `checked::update_size` meets its contract. Assumes nothing.
use mathlib.Core.Path.{sym, ◌∙◌}
use native.Mathlib.Omega.{arith}
use Rattle.laws.specs.DeltaShape.{area-data, area-size}
use Rattle.delta_form.proofs.checked.update_size.Goals as goal

pub count_at-requires : goal.count_at-requires
count_at-requires c =
    let a = c.args.area.now in
    let p = c.args.p in
    (omega (arith, c.requires.begins, area-data a p), omega (arith, c.requires.size_below, area-size a p))

pub returns : goal.returns
returns c =
    let e = c.count_at.ensures ∙ sym (area-size c.args.area.now c.args.p) in
    (e, omega (arith, e, c.requires.size_below))
