use mathlib.Core.Path.{ap, ◌∙◌}
use mathlib.Core.List.{List}
use Prim.Native.Nat.{ℕ, ◌+◌, ◌≤◌, ◌<◌}
use native.Mathlib.Omega.{arith}
use lib.IntN.{ℤ}
use lib.ListN.{length, drop}
use mir.Syntax.{w32}
use mir.Facts.{to_z-of_z}
use mir.Val.{SFits}
use borrow.Author.Rules.{rules}
use Rattle.definitions.specs.Warnings.{none}
use Rattle.definitions.specs.Packed.{warned}
use Rattle.definitions.specs.Stream.{stream, ints}
use Rattle.laws.specs.AreaLaws.{length-lay}
use Rattle.laws.specs.StreamLaws.{few-ints, found, ended}
use Rattle.format.specs.Numbers.{number}
use Rattle.packer.specs.Answers.{int_read}
use Rattle.packer.specs.Scans.{Scanned}
use Rattle.packer.proofs.PlaceLaws.{part-from}
use Rattle.packer.proofs.Scanning.{start, turn-set, joins, at-refusal}
use Rattle.packer.proofs.checked.scan_all.Goals as goal
use Rattle.packer.proofs.checked.scan_all.Lts as lts
use Rattle.packer.proofs.checked.scan_all.Tie as tie
use Rattle.packer.proofs.checked.scan_all.Reads as reads

abbrev After-out-1 : Type 0
After-out-1 = lts.After-out tie.the-claims reads.Pre reads.Post goal.the-invariant-loop-at goal.the-decreases-loop-at

pub loop-at-init : goal.loop-at-init
loop-at-init c = start c.args.src.now c.args.out.now _ c.default-t.ensures

pub shape_of-out-in_default : goal.shape_of-out-in_default
shape_of-out-in_default c = c.loop-at.invariant.same

pub returns-in_default : goal.returns-in_default
returns-in_default c =
    let l = c.loop-at in
    let src = c.args.src.now in
    let n = number c.in_default.field-0 in
    let i : l.at < length src = omega (arith, c.loop-at-test.true, c.saturating_sub-limit.ensures) in
    let refused = c.read_five-read.ensures ∙ ap int_read c.in_default.is in
    rw (c.stopped.ensures, c.in_default.is) (at-refusal n l.invariant (ended src l.at n none i refused))

pub loop-at-smaller : goal.loop-at-smaller
loop-at-smaller c =
    let i = c.in-Ok.int in
    -- the integer that was read
    let g = found c.args.src.now c.loop-at.at i.value i.next (warned i.overlong) (c.read_five-read.ensures ∙ ap int_read c.in-Ok.is) in
    omega (arith, g.on, g.inside)

pub loop-at-preserved : goal.loop-at-preserved
loop-at-preserved c =
    let i = c.in-Ok.int in
    let l = c.loop-at in
    -- the integer that was read
    let g = found c.args.src.now l.at i.value i.next (warned i.overlong) (c.read_five-read.ensures ∙ ap int_read c.in-Ok.is) in
    let fits : SFits w32 i.value = search rules in
    -- there is room for an int
    let room : l.t.count < length l.out =
    omega (arith, l.invariant.few, l.invariant.same, c.requires, c.loop-at-test.true, c.saturating_sub-limit.ensures) in
    rw (c.one_if.ensures, to_z-of_z {w = w32} fits) (turn-set i.overlong l.invariant room g)

-- what the pass over the last bytes told
module _ (c : After-out-1) where
  abbrev bytes : List ℕ
  bytes = c.args.src.now

  abbrev place : ℕ
  place = c.loop-at.at

  abbrev area : List ℤ
  area = c.loop-at.out

  abbrev written : ℕ
  written = c.loop-at.t.count

  rest : Scanned (stream (drop place bytes)) (drop written area) c.scan-rest.result c.scan-rest.new.out
  rest = rw (part-from bytes place, part-from area written) at c.scan-rest.ensures

pub joined-requires : goal.joined-requires
joined-requires c =
    let l = c.loop-at in
    let r = rest c.before in
    let n : written c.before + c.scan-rest.result.count ≤ length (bytes c.before) = omega (arith, r.count-is, l.invariant.counted, few-ints (bytes c.before)) in
    (omega arith, omega (arith, r.few, l.invariant.few-overlong))

pub shape_of-out : goal.shape_of-out
shape_of-out c =
    let e = joins c.loop-at.invariant (rest c.before.before) in
    let before = c.args.out.now in
    ap length e.out-is ∙ length-lay (ints (stream (bytes c.before.before))) before

pub returns : goal.returns
returns c = rw c.joined.ensures (joins c.loop-at.invariant (rest c.before.before))
