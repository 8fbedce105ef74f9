-- `checked::put_part` meets its contract: by how many parts are in. Assumes nothing.
use mir.Syntax.{w32}
use mir.Facts.{to_z-of_z}
use Rattle.definitions.specs.Receiver.{no_parts}
use Rattle.receiver.proofs.Opening.{waiting, all_in}
use Rattle.receiver.proofs.checked.put_part.Goals as goal

pub returns-then-n-k : goal.returns-then-n-k
returns-then-n-k c =
    let s = c in
    let a = s.args in
    waiting a.previous_tick a.o a.warnings a.n a.lengths.now a.parts.now a.joined.now s.requires.0 c.if-n-k.true

pub returns : goal.returns
returns c =
    let s = c in
    let a = s.args in
    let j = c.join-len.ensures in
    all_in a.previous_tick a.o a.warnings a.n a.lengths.now a.parts.now a.joined.now s.requires.0 _ _ _ c.without_current.result c.if-n-k.false j.0 j.1 (to_z-of_z {w = w32} {z = a.o.crc} (record { sfits = c.struct_told-1.given.1.1.1.0.1 })) (c.without_current.ensures no_parts)
