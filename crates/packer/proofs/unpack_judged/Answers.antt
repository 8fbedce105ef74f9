-- `packer::unpack_judged` meets its contract: without padding bits one pass writes all; else a first pass, which writes nothing, tells whether a
-- second one may. Assumes nothing.
use mathlib.Core.Path.{◌≡◌, sym, ap, ◌∙◌}
use mathlib.Core.List.{List, [], ◌++◌}
use Prim.Native.Nat.{◌≤◌}
use native.Mathlib.Omega.{arith}
use lib.IntN.{ℤ}
use lib.ListN.{length}
use Rattle.definitions.specs.Stream.{stream, ints}
use Rattle.laws.specs.AreaLaws.{lay-nowhere}
use Rattle.laws.specs.StreamLaws.{few-ints}
use Rattle.packer.proofs.Scanning.{all-unpacked, has-padding, no_room}
use Rattle.packer.proofs.unpack_judged.Goals as goal

pub returns-then-not-may_have_padding : goal.returns-then-not-may_have_padding
returns-then-not-may_have_padding c =
    let a = c.args in
    let s = c.scan_all in
    let test = c.may_have_padding in
    let none = test.ensures c.if-not-may_have_padding.true in
    all-unpacked a.src.now a.out.now s.result _ c.all_unpacked.ensures none (omega (arith, few-ints a.src.now)) s.ensures

pub returns-then-all : goal.returns-then-all
returns-then-all c =
    let a = c.args in
    let s = c.scan-all in
    has-padding a.src.now a.out.now s.result _ c.none_unpacked.ensures c.if-all.true s.ensures

pub returns-then-out-all : goal.returns-then-out-all
returns-then-out-all c =
    let a = c.args in
    let s = c.scan-all in
    no_room a.src.now a.out.now s.result _ c.none_unpacked-then-out-all.ensures c.if-all.false c.if-out-all.true s.ensures

pub returns : goal.returns
returns c =
    let a = c.args in
    let s = c.scan-all in
    let front : s.new.out ≡ [] = s.ensures.out-is ∙ lay-nowhere (ints (stream a.src.now)) in
    let t = c.scan in
    let whole = sym s.ensures.padded-is ∙ c.if-all.false in
    let room : length (ints (stream a.src.now)) ≤ length a.out.now =
    omega (arith, s.ensures.count-is, c.if-out-all.false, ap (λ (l : List ℤ). length (l ++ a.out.now)) front) in
    all-unpacked a.src.now a.out.now t.result _ c.all_unpacked-2.ensures whole room (rw front at t.ensures)
