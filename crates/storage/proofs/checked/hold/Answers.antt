-- `checked::hold` meets its contract: by the room that the area has. Assumes nothing.
use Rattle.definitions.specs.Storage as Store
use Rattle.laws.specs.StoreRoom.{room_take}
use Rattle.storage.proofs.Deltas.{hold-40, hold-done}
use Rattle.store_area.specs.Held.{snaps_in}
use Rattle.store_area.specs.Laid.{leaves-more}
use lib.ListN.{length}
use mathlib.Core.List.{List}
use mathlib.Core.Path.{ap}
use native.Mathlib.Omega.{arith}
use Rattle.storage.proofs.checked.hold.Goals as goal
use Rattle.storage.proofs.checked.hold.Lts as lts
use Rattle.storage.proofs.checked.hold.Tie as tie
use Rattle.storage.proofs.checked.hold.Reads as reads

abbrev Start : Type 0
Start = lts.Start tie.the-claims reads.Pre reads.Post

-- the tables
abbrev L : Start → List Store.StoredSnap
L s = snaps_in s.args.s.count s.args.area.now

pub overflow_add-used : goal.overflow_add-used
overflow_add-used c =
    let s = c in
    omega (arith, c.used-used.ensures, room_take c.stay-kept.result (L c.before.before), s.requires.0.held.stands.room, s.requires.1)

pub returns-then-area-used : goal.returns-then-area-used
returns-then-area-used c t sum e f =
    let s = c in
    let k = c.stay-kept in
    let u = c.used-used in
    hold-40 s.args.s s.args.area.now s.args.ints s.requires.0 k.result u.result k.ensures.0 u.ensures
    (k.ensures.2 (L c.before.before.before) s.requires.0.held.many) s.args.tick t _ (ap length e) s.args.warnings sum f c.if-area-used.true

pub returns : goal.returns
returns c t sum e f =
    let s = c in
    let k = c.stay-kept in
    let u = c.used-used in
    let p = c.push in
    let laid = leaves-more c.cut.ensures (record { tick = s.args.tick.0; snap = t }) _ (p.ensures t e) in
    hold-done s.args.s s.args.area.now s.args.ints s.requires.0 k.result u.result k.ensures.0 u.ensures
    (k.ensures.2 (L c.before.before.before.before.before.before.before.before.before.before) s.requires.0.held.many) s.args.tick t _ (ap length e) s.args.warnings sum f c.with_ack.result _
    c.if-area-used.false laid c.with_ack.ensures
