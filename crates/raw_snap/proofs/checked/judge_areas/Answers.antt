-- `checked::judge_areas` meets its contract: by the two forms, and then by the length of scratch. Assumes nothing.
use mathlib.Core.List.{[]}
use Rattle.delta_form.specs.Forms as DeltaForms
use Rattle.table.specs.Forms.{formed}
use Rattle.table.specs.Writing.{not-held, is_held}
use Rattle.raw_snap.specs.Applied.{base-refused, delta-refused, scratch-refused, is-applied}
use Rattle.raw_snap.proofs.checked.judge_areas.Goals as goal

pub returns-in_default : goal.returns-in_default
returns-in_default c = base-refused _ _ _ (not-held _ c.in_default.ensures)

pub returns-in_default-form : goal.returns-in_default-form
returns-in_default-form c =
    delta-refused _ _ _ (is_held _ c.in-Some.ensures) (DeltaForms.not-held _ c.in_default-form.ensures)

pub returns-then-scratch-lt16384 : goal.returns-then-scratch-lt16384
returns-then-scratch-lt16384 c =
    let changes = (DeltaForms.formed [] c.args.delta.now _ _ _ c.in-Some-form.ensures).0 in
    scratch-refused _ _ _ (is_held _ c.in-Some.ensures) (DeltaForms.is_held _ _ _ changes) c.if-scratch-lt16384.true

pub returns : goal.returns
returns c =
    let changes = (DeltaForms.formed [] c.args.delta.now _ _ _ c.in-Some-form.ensures).0 in
    record {
      table = (formed _ _ _ c.in-Some.ensures).0;
      changes = changes;
      room = c.if-scratch-lt16384.false;
      is = is-applied _ _ _ (is_held _ c.in-Some.ensures) (DeltaForms.is_held _ _ _ changes) c.if-scratch-lt16384.false;
    }
