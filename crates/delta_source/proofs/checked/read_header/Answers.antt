-- `checked::read_header` meets its contract: step by step as the definition. Assumes nothing.
use Rattle.std.proofs.lemmas.Result.{err_from_is_err_and}
use Rattle.delta_source.proofs.Heading.{first-refused, second-refused, header-judged}
use Rattle.delta_source.proofs.checked.read_header.Goals as goal

pub returns-in_err-deleted : goal.returns-in_err-deleted
returns-in_err-deleted c =
    let p = err_from_is_err_and c.from_residual.result c.from_residual.ensures.1 in
    rw (p.1, p.2) (first-refused _ c.in_err-deleted.ensures)

pub returns-in-Err : goal.returns-in-Err
returns-in-Err c = second-refused _ c.in_ok-deleted.ensures c.in-Err.ensures

pub returns-in-Ok : goal.returns-in-Ok
returns-in-Ok c = header-judged _ c.in_ok-deleted.ensures c.in-Ok.ensures c.read_padding.ensures
