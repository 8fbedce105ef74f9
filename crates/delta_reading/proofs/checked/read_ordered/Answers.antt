-- `checked::read_ordered` meets its contract: by the form. Assumes nothing.
use native.Mathlib.Omega.{arith}
use Rattle.delta_form.specs.Forms.{formed}
use Rattle.delta_reading.proofs.Reading.{ordered-read}
use Rattle.delta_reading.proofs.checked.read_ordered.Goals as goal

pub write_whole-answer-requires : goal.write_whole-answer-requires
write_whole-answer-requires c =
    let f = formed _ _ _ _ _ c.in_ok-form.ensures in
    (f.0, omega (arith, c.if-form-src.false, f.1))

pub num_delete_updates-delete_updates-requires : goal.num_delete_updates-delete_updates-requires
num_delete_updates-delete_updates-requires c = (formed _ _ _ _ _ c.in_ok-form.ensures).0

pub returns : goal.returns
returns c =
    let f = formed _ _ _ _ _ c.in_ok-form.ensures in
    ordered-read _ _ _ _ _ f.0 (omega (arith, c.if-form-src.false, f.1)) _ _ c.write_whole-answer.result c.write_whole-answer.ensures c.num_delete_updates-delete_updates.ensures.0
