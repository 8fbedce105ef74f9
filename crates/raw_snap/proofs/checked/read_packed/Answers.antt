-- `checked::read_packed` meets its contract: by what was unpacked. Assumes nothing.
use lib.ListN.{length}
use Rattle.raw_snap.proofs.Unpacking.{refused-raw, read-raw}
use Rattle.raw_snap.proofs.checked.read_packed.Goals as goal

pub returns-in-Err : goal.returns-in-Err
returns-in-Err c = let a = c.args in refused-raw a.src.now (length a.scratch.now) a.out.now c.in-Err.ensures

pub returns-in-Ok : goal.returns-in-Ok
returns-in-Ok c =
    let a = c.args in
    let r = c.read_table-read in
    read-raw a.src.now (length a.scratch.now) a.out.now _ c.in-Ok.all _ r.result.answer r.result.excess _ c.in-Ok.ensures r.ensures c.packed_warnings.ensures
