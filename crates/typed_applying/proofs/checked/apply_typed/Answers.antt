-- `checked::apply_typed` meets its contract: by whether the delta was refused. Assumes nothing.
use Rattle.typed_applying.proofs.Applied.{apply-refused, apply-made, then_typed}
use Rattle.typed_applying.proofs.checked.apply_typed.Goals as goal

pub judge-requires : goal.judge-requires
judge-requires c =
    let a = c.args in
    let r = c.requires in
    (apply-made a.base.now a.nb r.0 a.delta.now a.deleted a.updated r.1 a.out.now c.apply-applied.new.out r.2 c.apply-applied.result.unknown_delete c.in-Ok.ints (rw c.in-Ok.is at c.apply-applied.ensures)).form

pub returns-in-Err : goal.returns-in-Err
returns-in-Err c =
    let a = c.args in
    let r = c.requires in
    (apply-refused a.base.now a.nb r.0 a.delta.now a.deleted a.updated r.1 a.out.now c.apply-applied.new.out r.2 c.apply-applied.result.unknown_delete c.in-Err.e (rw c.in-Err.is at c.apply-applied.ensures), tt)

pub returns-in-Ok : goal.returns-in-Ok
returns-in-Ok c =
    let a = c.args in
    let r = c.requires in
    let made = apply-made a.base.now a.nb r.0 a.delta.now a.deleted a.updated r.1 a.out.now c.apply-applied.new.out r.2 c.apply-applied.result.unknown_delete c.in-Ok.ints (rw c.in-Ok.is at c.apply-applied.ensures) in
    (then_typed _ c.apply-applied.result.unknown_delete _ _ _ made c.judge.ensures.0, c.judge.ensures.1)
