-- `checked::read_packed` meets its contract: by what was unpacked. Assumes nothing.
use lib.ListN.{length}
use Rattle.definitions.specs.Types.{typed}
use Rattle.raw_snap.specs.Unpacking.{read-unpacked}
use Rattle.snap.proofs.checked.read_packed.Goals as goal

pub returns-in-Err : goal.returns-in-Err
returns-in-Err c = c.in-Err.ensures typed c.args.out.now

pub returns-in-Ok : goal.returns-in-Ok
returns-in-Ok c =
    let a = c.args in
    let r = c.read_typed-read in
    read-unpacked typed a.src.now (length a.scratch.now) _ c.in-Ok.all a.out.now _ r.result.answer _ _ c.in-Ok.ensures r.ensures c.packed_warnings.ensures
