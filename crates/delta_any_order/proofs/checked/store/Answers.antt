-- `checked::store` meets its contract: refused for lack of room, or header, keys and updates written. Assumes nothing.
use native.Mathlib.Omega.{arith}
use Rattle.delta_any_order.proofs.Weighing.{few-counts, weighed-refused, weighed-room, weighed-stored}
use Rattle.delta_any_order.proofs.checked.store.Goals as goal

pub returns-then-out-front : goal.returns-then-out-front
returns-then-out-front c = weighed-refused c.requires.2 c.args.out.now (omega arith)

pub write_header-requires : goal.write_header-requires
write_header-requires c =
    let m = few-counts c.requires.2 c.requires.0 in
    (omega arith, m.0, m.1)

pub emit-requires : goal.emit-requires
emit-requires c =
    let F = c.requires.1 in
    (c.requires.0, F.keys-inside, F.behind, F.first-inside, weighed-room c.requires.2 c.args.out.now (omega arith) _ c.write_header.ensures)

pub overflow_add-t : goal.overflow_add-t
overflow_add-t c =
    let m = few-counts c.requires.2 c.requires.0 in
    omega (arith, m.0)

pub updates_end-requires : goal.updates_end-requires
updates_end-requires c =
    let W = c.requires.2 in
    let m = weighed-room W c.args.out.now (omega arith) _ c.write_header.ensures W.values W.items W.told in
    omega (arith, m.1, c.emit.auto.out)

pub returns : goal.returns
returns c =
    weighed-stored c.requires.2 c.args.out.now (omega arith) _ c.write_header.ensures _ c.emit.ensures c.updates_end.result c.updates_end.ensures
