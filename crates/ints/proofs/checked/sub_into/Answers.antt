use Rattle.std.proofs.Common.{SFits, rules, get_or, pos, sym, ◌∙◌, ap₂, add-zero, arith, to_z-of_z, w32}
use Rattle.definitions.specs.Ints.{wrapping_sub}
use Rattle.definitions.specs.DeltaMaking.{zip_with}
use Rattle.laws.specs.AreaLaws.{lay_at-copied}
use Rattle.laws.specs.ZipLaws.{length-zip_with, lay_at-zip}
use Rattle.ints.proofs.checked.sub_into.Goals as goal

pub loop-i-init : goal.loop-i-init
loop-i-init c = rw add-zero

pub loop-i-preserved : goal.loop-i-preserved
loop-i-preserved c =
    let s = c.args in
    let l = c.loop-i in
    let f : SFits w32 (get_or s.a.now l.i (pos 0)) = search rules in
    let g : SFits w32 (get_or s.b.now l.i (pos 0)) = search rules in
    let q = c.wrapping_sub.ensures ∙ ap₂ wrapping_sub (to_z-of_z {w = w32} f) (to_z-of_z {w = w32} g) in
    rw (to_z-of_z {w = w32} (record { sfits = c.wrapping_sub.type_inv }), q, ← lay_at-zip wrapping_sub s.at l.i s.a.now s.b.now l.out c.requires.0 (omega arith) (omega arith)) l.invariant

pub returns : goal.returns
returns c =
    let s = c.args in
    let l = c.loop-i in
    let n = length-zip_with wrapping_sub s.a.now s.b.now c.requires.0 in
    sym (lay_at-copied s.at l.i (zip_with wrapping_sub s.a.now s.b.now) l.out (omega arith)) ∙ l.invariant
