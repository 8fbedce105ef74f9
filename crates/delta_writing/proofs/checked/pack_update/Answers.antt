-- `checked::pack_update` meets its contract: both parts were packed. Assumes nothing.
use mathlib.Core.Path.{refl}
use Rattle.delta_writing.proofs.Writing.{head-room, rest-room, packed-written}
use Rattle.delta_writing.proofs.checked.pack_update.Goals as goal

pub pack_at-next-requires : goal.pack_at-next-requires
pack_at-next-requires c =
    let s = c.args in
    head-room s.sizes.now s.area.now s.p c.requires.0 _ refl s.at s.out.now c.requires.1

pub pack_at-requires : goal.pack_at-requires
pack_at-requires c =
    let s = c.args in
    let e = c.pack_at-next.ensures in
    rest-room s.sizes.now s.area.now s.p c.requires.0 _ c.update_rest.ensures s.at s.out.now c.requires.1 _ _ e.0 e.1

pub returns : goal.returns
returns c =
    let s = c.args in
    let e = c.pack_at-next.ensures in
    let d = c.pack_at.ensures in
    packed-written s.sizes.now s.area.now s.p c.requires.0 _ c.update_rest.ensures s.at s.out.now c.requires.1 _ _ e.0 e.1 _ _ d.0 d.1
