use Rattle.std.proofs.Common.{sym, ◌∙◌, arith, to_z-of_z, w32}
use Rattle.definitions.specs.Ints.{wrapping_add}
use Rattle.definitions.specs.DeltaMaking.{zip_with}
use Rattle.laws.specs.AreaLaws.{lay_at-copied}
use Rattle.laws.specs.ZipLaws.{length-zip_with, lay_at-zip}
use Rattle.ints.proofs.checked.add_from.Goals as goal

pub loop-i-preserved : goal.loop-i-preserved
loop-i-preserved c =
    let s = c.args in
    let l = c.loop-i in
    rw (to_z-of_z {w = w32} (record { sfits = c.sum_at.type_inv }), c.sum_at.ensures, ← lay_at-zip wrapping_add s.at l.i s.a.now s.b.now l.out c.requires.0 (omega arith) (omega arith)) l.invariant

pub returns : goal.returns
returns c =
    let s = c.args in
    let l = c.loop-i in
    let n = length-zip_with wrapping_add s.a.now s.b.now c.requires.0 in
    sym (lay_at-copied s.at l.i (zip_with wrapping_add s.a.now s.b.now) l.out (omega arith)) ∙ l.invariant
