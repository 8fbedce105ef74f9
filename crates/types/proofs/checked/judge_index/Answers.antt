-- `checked::judge_index` meets its contract: no item of a table in form is refused, and the index has the area's table. Assumes nothing.
use Rattle.types.proofs.InForm.{form-ints, none-refused, form-picks, form-judged}
use borrow.Author.Rules.{rules}
use Rattle.types.proofs.checked.judge_index.Goals as goal

pub place_items-requires : goal.place_items-requires
place_items-requires c = let p = c.requires in (form-ints _ _ _ p.0 p.1, search rules)

pub returns-in-Err : goal.returns-in-Err
returns-in-Err c = let p = c.requires in absurd (none-refused _ _ _ p.0 p.1 c.in-Err.ensures)

pub returns : goal.returns
returns c =
    let p = c.requires in
    form-judged _ _ _ p.0 p.1 _ c.judge.result (form-picks _ _ _ p.0 p.1 c.in_default.ensures) c.judge.ensures

pub invariant_of-judge : goal.invariant_of-judge
invariant_of-judge c = let p = c.requires in record { picks = form-picks _ _ _ p.0 p.1 c.in_default.ensures }
