-- `checked::add_empty` meets its contract. Assumes nothing.
use Rattle.definitions.specs.Manager.{empty_read}
use Rattle.definitions.specs.Outcome.{return}
use Rattle.format.specs.Totals.{counts}
use Rattle.manager.proofs.Additions.{adds}
use Rattle.manager.proofs.ReadStored.{Holding, read-holds, empty-sound}
use Rattle.manager.specs.Steps.{fitting}
use lib.ListN.{length}
use native.Mathlib.Omega.{arith}
use Rattle.manager.proofs.checked.add_empty.Goals as goal
use Rattle.manager.proofs.checked.add_empty.Lts as lts
use Rattle.manager.proofs.checked.add_empty.Tie as tie
use Rattle.manager.proofs.checked.add_empty.Reads as reads

abbrev After-read_empty-read : Type 0
After-read_empty-read = lts.After-read_empty tie.the-claims reads.Pre reads.Post

-- what the delta's area holds then
holding : (c : After-read_empty-read) → Holding c.args.delta.now c.read_empty-read.result.answer (counts c.read_empty-read.result.warnings) c.read_empty-read.new.delta (fitting (length c.args.delta.now) (return empty_read))
holding c = read-holds c.args.delta.now _ _ c.read_empty-read.result.answer _ 2 (omega arith) empty-sound c.read_empty-read.ensures

pub add-requires : goal.add-requires
add-requires c = (c.requires.0, omega (arith, c.requires.1), (holding c.before.before.before).form)

pub returns : goal.returns
returns c =
    let a = c.args in
    adds a.a a.m a.s a.delta.now _ a.area.now _ _ c.read_empty-read.result c.add.result (holding c.before.before.before.before.before.before) c.add.ensures
