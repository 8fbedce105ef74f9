-- `checked::put_counts` meets its contract: it stores three ints, one after the other. Assumes nothing.
use Rattle.delta_form.proofs.Laying.{three-laid}
use Rattle.delta_form.proofs.checked.put_counts.Goals as goal

pub returns : goal.returns
returns c =
    let c₃ = c in
    let c₂ = c in
    let c₁ = c in
    three-laid c.args.out.now c₁.put.new.area c₂.put-2.new.area c₃.put-3.new.area c.args.at _ _ _ c.requires.0 c₁.put.ensures c₂.put-2.ensures c₃.put-3.ensures
