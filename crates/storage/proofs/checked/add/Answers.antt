-- `checked::add` meets its contract: by the delta that is made. Assumes nothing.
use Prim.Native.Nat.{◌+◌, ◌≤◌}
use Rattle.definitions.specs.Storage as Store
use Rattle.definitions.specs.Tables.{items}
use Rattle.storage.proofs.Additions.{made-room}
use Rattle.storage.proofs.Calls.{room-is, adding-ends, made-key}
use Rattle.storage.specs.States.{store_of}
use Rattle.store_area.specs.Held.{snaps_in}
use Rattle.table.specs.Forms.{formed}
use Rattle.table.specs.Writing.{form-front, form-length}
use borrow.Author.Tests.{leb-true}
use lib.Dec.{leb}
use lib.ListN.{length}
use mathlib.Core.Bool.{true}
use mathlib.Core.Path.{◌≡◌, sym, ap, ◌∙◌}
use native.Mathlib.Omega.{arith}
use Rattle.storage.proofs.checked.add.Goals as goal
use Rattle.storage.proofs.checked.add.Lts as lts
use Rattle.storage.proofs.checked.add.Tie as tie
use Rattle.storage.proofs.checked.add.Reads as reads

abbrev Start : Type 0
Start = lts.Start tie.the-claims reads.Pre reads.Post tie.handed_clauses

-- the table that is added
abbrev new : Start → Store.StoredSnap
new s = record { tick = s.args.tick.0; snap = items s.args.table.now }

-- its length, and that of the tables held
bounds : (s : Start) → (s.args.size ≤ 16384) × (s.args.ints ≤ length s.args.area.now)
bounds s =
    let f = formed s.args.table.now _ _ s.requires.2 in
    (omega (arith, f.1, f.0.shape.short), omega (arith, s.requires.0.ints-are, s.requires.0.held.stands.room))

pub overflow_add-room : goal.overflow_add-room
overflow_add-room c = let w = bounds c in omega (arith, w)

pub overflow_add-room-2 : goal.overflow_add-room-2
overflow_add-room-2 c = let w = bounds c in omega (arith, w)

pub make_delta-result-requires : goal.make_delta-result-requires
make_delta-result-requires c = let s = c in (s.requires.0.held, (formed s.args.table.now _ _ s.requires.2).0)

pub slice_bounds-finish-end : goal.slice_bounds-finish-end
slice_bounds-finish-end c = let s = c in form-length s.args.table.now s.requires.2

pub finish-requires : goal.finish-requires
finish-requires c =
    let s = c in
    let m = c.make_delta-result in
    let n = form-length s.args.table.now s.requires.2 in
    let w = bounds c.before.before.before.before.before in
    let k = s.args.ints + (s.args.size + 2) in
    let a = length s.args.area.now in (
      s.requires.0,
      s.requires.1,
      omega (arith, n, w),
      λ i e. let q : leb k a ≡ true = made-room _ _ _ _ _ _ i (m.ensures.table_value s.args.tick.0) e in omega (arith, n, leb-true k a q),
    )

pub returns : goal.returns
returns c =
    let s = c in
    let d = c in
    let r = c.finish in
    let t = s.args.table.now in
    let a = s.args.area.now in
    let f = r.ensures in
    let h = s.requires.0 in
    let b = c.base_tick-base in
    let m = d.make_delta-result in
    let front = sym (form-front t s.requires.2) in
    let room = room-is (new c.before.before.before.before.before.before.before) (snaps_in s.args.s.count a) (length a) s.args.ints s.args.size h.ints-are
    (form-length t s.requires.2 ∙ ap length front) in
    let key = made-key b.result m.result _ (items t) (m.ensures.result_value s.args.tick.0) in record {
      delta_value = adding-ends (store_of s.args.s) a s.args.delta.now s.args.ints h (new c.before.before.before.before.before.before.before) _ m.result _ s.requires.1 room
          (m.ensures.table_value s.args.tick.0) r.result _ b.result (b.ensures (items t)) f.0 f.1 (f.2 (items t) front);
      answer_value = rw f.0 key;
    }
