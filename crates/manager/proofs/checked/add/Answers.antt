-- `checked::add` meets its contract: by whether the delta was read. Assumes nothing.
use Rattle.format.specs.Totals.{counts}
use Rattle.laws.specs.WarningKinds.{merge}
use Rattle.manager.proofs.Additions.{not-read, was_read}
use Rattle.storage.specs.States.{store_of}
use Rattle.storage.specs.Taking.{sum_of}
use mathlib.Core.Path.{refl, ap, ◌∙◌}
use Rattle.manager.proofs.checked.add.Goals as goal

pub take-taking-requires : goal.take-taking-requires
take-taking-requires c = (c.requires.0, c.requires.2 _ c.in-Ok.is, c.requires.1)

pub returns-in-Err : goal.returns-in-Err
returns-in-Err c =
    let s = c in
    let a = s.args in
    rw c.told.ensures
    (not-read (store_of a.s) a.area.now a.ints s.requires.0 (counts a.a.warnings) (counts a.read.warnings) (sum_of a.m) a.m.delta_tick.0 a.m.tick.0 a.delta.now a.read.answer _ _ c.in-Err.is (c.merged-all.ensures ∙ ap (merge (counts a.a.warnings) (counts a.read.warnings)) c.none.ensures), refl)

pub returns-in-Ok : goal.returns-in-Ok
returns-in-Ok c =
    let s = c in
    let a = s.args in
    rw c.told-in-Ok.ensures
    (was_read (store_of a.s) a.area.now a.ints s.requires.0 (counts a.a.warnings) (counts a.read.warnings) (sum_of a.m) a.m.delta_tick.0 a.m.tick.0 a.delta.now a.read.answer _ c.take-taking.result c.handled.result _ _ c.in-Ok.is c.take-taking.ensures c.handled.ensures c.merged-all-in-Ok.ensures, refl)
