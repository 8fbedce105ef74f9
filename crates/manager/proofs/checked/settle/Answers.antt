-- `checked::settle` meets its contract: by what the receiver answered. Assumes nothing.
use Rattle.manager.proofs.Additions.{layers, not_yet, refused, bytes-added, empty-added}
use Rattle.manager.proofs.ReadSound.{read_told}
use Rattle.manager.proofs.ReadStored.{fitting-told, empty-sound}
use Rattle.manager.specs.Steps.{Short}
use Prim.Native.Nat.{◌≤◌}
use lib.ListN.{take, length-take}
use lib.Seq.{length-take-le}
use mathlib.Core.Option.{some}
use mathlib.Core.Path.{◌≡◌, refl, sym, ap, ◌∙◌, subst}
use Rattle.std.specs.Prelude.{Ok, Some, None}
use Rattle.receiver.specs.declared.Received.TheVariants as received
use mir.Facts.{to_z-of_z}
use mir.Syntax.{w32}
use Rattle.std.proofs.Common.{SFits, rules}
use native.Mathlib.Omega.{arith}
use Rattle.manager.proofs.checked.settle.Goals as goal

pub add_empty-requires : goal.add_empty-requires
add_empty-requires c = (c.requires.0, c.requires.1)

pub slice_bounds-data-end : goal.slice_bounds-data-end
slice_bounds-data-end c =
    let e : c.args.a.answer ≡ Ok (Some (received.Delta c.in-Delta.tick c.in-Delta.delta_tick c.in-Delta.len c.in-Delta.crc)) =
    layers _ _ _ _ c.in-Ok-Some.is (rw c.in-Ok-Some.is at c.in-Ok-Some.field-0-is) c.in-Delta.is in
    let few : c.in-Delta.len ≤ 28800 = subst Short e c.requires.3.short in
    sym (length-take-le _ c.args.joined.now (omega (arith, few, c.requires.2)))

pub add_bytes-requires : goal.add_bytes-requires
add_bytes-requires c =
    let e : c.args.a.answer ≡ Ok (Some (received.Delta c.in-Delta.tick c.in-Delta.delta_tick c.in-Delta.len c.in-Delta.crc)) =
    layers _ _ _ _ c.in-Ok-Some.is (rw c.in-Ok-Some.is at c.in-Ok-Some.field-0-is) c.in-Delta.is in
    let few : c.in-Delta.len ≤ 28800 = subst Short e c.requires.3.short in
    (c.requires.0, c.requires.1, simp length-take (omega (arith, few)))

pub returns-in-Ok-None : goal.returns-in-Ok-None
returns-in-Ok-None c =
    let a = c.args in
    let e : a.a.answer ≡ Ok None = c.in-Ok-None.is ∙ ap Ok (rw c.in-Ok-None.is at c.in-Ok-None.field-0-is) in
    λ parts. not_yet a.a a.g.storage parts a.joined.now a.sizes.now a.delta.now a.area.now a.ints c.requires.0 _ e c.stop.ensures

pub returns-in-Err : goal.returns-in-Err
returns-in-Err c =
    let a = c.args in
    λ parts. refused a.a a.g.storage parts a.joined.now a.sizes.now a.delta.now a.area.now a.ints c.requires.0 _ _ c.in-Err.is c.stop-in-Err.ensures

pub returns-in-Empty : goal.returns-in-Empty
returns-in-Empty c =
    let a = c.args in
    let e : a.a.answer ≡ Ok (Some (received.Empty c.in-Empty.tick c.in-Empty.delta_tick)) =
    layers _ _ _ _ c.in-Ok-Some.is (rw c.in-Ok-Some.is at c.in-Ok-Some.field-0-is) c.in-Empty.is in
    λ parts. empty-added a.a a.g.storage parts a.joined.now a.sizes.now a.delta.now a.area.now c.requires.3 _ c.add_empty.result _ _ c.in-Empty.tick c.in-Empty.delta_tick e refl refl refl (fitting-told _ 2 empty-sound) c.add_empty.ensures

pub returns-in-Delta : goal.returns-in-Delta
returns-in-Delta c =
    let a = c.args in
    let e : c.args.a.answer ≡ Ok (Some (received.Delta c.in-Delta.tick c.in-Delta.delta_tick c.in-Delta.len c.in-Delta.crc)) =
    layers _ _ _ _ c.in-Ok-Some.is (rw c.in-Ok-Some.is at c.in-Ok-Some.field-0-is) c.in-Delta.is in
    let crc : SFits w32 c.in-Delta.crc = search rules in
    λ parts. bytes-added a.a a.g.storage parts a.joined.now a.sizes.now a.delta.now a.area.now c.requires.3 _ c.add_bytes.result _ _ c.in-Delta.tick c.in-Delta.delta_tick c.in-Delta.len c.in-Delta.crc e (ap some (to_z-of_z crc)) refl refl (fitting-told _ _ (read_told a.sizes.now (take c.in-Delta.len a.joined.now))) c.add_bytes.ensures
