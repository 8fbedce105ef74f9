-- `checked::add_bytes` meets its contract. Assumes nothing.
use Rattle.definitions.specs.DeltaReading.{read_delta}
use Rattle.definitions.specs.Stream.{stream}
use Rattle.format.specs.Totals.{counts}
use Rattle.manager.proofs.Additions.{adds}
use Rattle.manager.proofs.ReadSound.{read_told}
use Rattle.manager.proofs.ReadStored.{Holding, read-holds}
use Rattle.manager.specs.Steps.{fitting}
use lib.ListN.{length}
use native.Mathlib.Omega.{arith}
use Rattle.manager.proofs.checked.add_bytes.Goals as goal
use Rattle.manager.proofs.checked.add_bytes.Lts as lts
use Rattle.manager.proofs.checked.add_bytes.Tie as tie
use Rattle.manager.proofs.checked.add_bytes.Reads as reads

abbrev After-read_packed-read : Type 0
After-read_packed-read = lts.After-read_packed tie.the-claims reads.Pre reads.Post

-- what the delta's area holds then
holding : (c : After-read_packed-read) → Holding c.args.delta.now c.read_packed-read.result.answer (counts c.read_packed-read.result.warnings) c.read_packed-read.new.out (fitting (length c.args.delta.now) (read_delta c.args.sizes.now (stream c.args.«data».now)))
holding c = read-holds c.args.delta.now _ _ c.read_packed-read.result.answer _ (length c.args.«data».now) c.requires.2 (read_told c.args.sizes.now c.args.«data».now) c.read_packed-read.ensures

pub read_packed-read-requires : goal.read_packed-read-requires
read_packed-read-requires c = (omega (arith, c.requires.2), omega (arith, c.requires.1, c.requires.2))

pub add-requires : goal.add-requires
add-requires c =
    let k = c.read_packed-read.auto.scratch in
    (c.requires.0, omega (arith, k, c.requires.1), (holding c.before.before.before.before.before).form)

pub returns : goal.returns
returns c =
    let a = c.args in
    adds a.a a.m a.s a.delta.now _ a.area.now _ _ c.read_packed-read.result c.add.result (holding c.before.before.before.before.before.before.before.before) c.add.ensures
