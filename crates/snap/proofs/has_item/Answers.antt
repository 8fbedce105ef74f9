-- `snap::has_item` meets its contract: by the form of the area, the raw type and the place of the key. Assumes nothing.
use mathlib.Core.Path.{refl, sym, ap, ◌∙◌}
use Rattle.std.specs.Prelude.{Ok}
use Rattle.std.proofs.lemmas.Result.{err_from_is_err_and}
use Rattle.definitions.specs.Outcome.{return}
use Rattle.table.specs.Forms.{formed}
use Rattle.snap.proofs.Calls.{no-has, has-refused, has-unknown, has-known}
use Rattle.snap.proofs.has_item.Goals as goal

pub returns-in_default : goal.returns-in_default
returns-in_default c = no-has _ c.in_default.ensures _ _

pub raw_of-requires : goal.raw_of-requires
raw_of-requires c = (formed _ _ _ c.in-Some.ensures).0

pub returns-in_err-raw_of : goal.returns-in_err-raw_of
returns-in_err-raw_of c =
    let p = err_from_is_err_and c.from_residual.result c.from_residual.ensures.1 in
    rw (p.1, p.2) (has-refused _ _ (formed _ _ _ c.in-Some.ensures).0 _ _ _ c.in_err-raw_of.ensures _ refl)

pub returns-in-None : goal.returns-in-None
returns-in-None c =
    has-unknown _ _ (formed _ _ _ c.in-Some.ensures).0 _ _ (Ok c.in_ok-raw_of.field-0) c.in_ok-raw_of.ensures (ap Ok c.in-None.is)

pub has_raw-requires : goal.has_raw-requires
has_raw-requires c = (formed _ _ _ c.in-Some.ensures).0

pub returns-in-Some-2 : goal.returns-in-Some-2
returns-in-Some-2 c =
    has-known _ _ (formed _ _ _ c.in-Some.ensures).0 _ _ (Ok c.in_ok-raw_of.field-0) c.in_ok-raw_of.ensures _ (ap Ok c.in-Some-2.is)
    ∙ ap return (sym c.has_raw.ensures)
