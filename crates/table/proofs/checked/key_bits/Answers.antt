-- `checked::key_bits` meets its contract. Assumes nothing.
use Prim.Native.Nat.{ℕ, ◌+◌, ◌-◌, ◌/◌, ◌<◌, ◌^◌}
use mathlib.Core.Path.{◌≡◌, ap, ap₂, ◌∙◌, subst}
use mathlib.Core.List.{List}
use native.Mathlib.Omega.{arith}
use lib.IntN.{ℤ, pos}
use lib.ListN.{length, get_or, length-drop}
use lib.Seq.{get_or-drop}
use lib.Signed.{mag}
use Rattle.definitions.specs.Ints.{bits}
use Rattle.definitions.specs.Tables.{edge, start, key_at}
use Rattle.table.proofs.OffsetLaws.{edge-before, bits-edge, ends-aligned}
use Rattle.table.proofs.checked.key_bits.Goals as goal
use Rattle.table.proofs.checked.key_bits.Lts as lts
use Rattle.table.proofs.checked.key_bits.Tie as tie
use Rattle.table.proofs.checked.key_bits.Reads as reads

abbrev After-bits_at-here : Type 0
After-bits_at-here = lts.After-bits_at tie.the-claims reads.Pre reads.Post

abbrev A : After-bits_at-here → List ℤ
A c = c.args.area.now

-- where the item begins, in bytes
begins : (c : After-bits_at-here) → let s = c.before in (c.bits_at-here.result ≡ edge (A c) s.args.i) × (edge (A c) s.args.i < s.args.size)
begins c =
    let s = c.before in
    (c.bits_at-here.ensures.0 ∙ bits-edge (A c) s.args.n s.args.size s.requires.0 s.requires.1 s.args.i s.requires.2, edge-before (A c) s.args.n s.args.size s.requires.0 s.requires.1 s.args.i s.requires.2)

-- the place of its key
place_is : (c : After-bits_at-here) → 2 + c.args.n + c.bits_at-here.result / 4 ≡ start (A c) c.args.i
unfolding start
place_is c = ap₂ (λ (n x : ℕ). 2 + n + x / 4) c.requires.0.count-is (begins c).0

-- it is past the offsets, within the data
within : (c : After-bits_at-here) → let s = c.before in 2 + s.args.n + c.bits_at-here.result / 4 < length (A c)
within c =
    let s = c.before in
    omega (arith, (begins c).0, (begins c).1, s.requires.0.room, ends-aligned (A c) s.args.n s.args.size s.requires.0 s.requires.1 (omega (arith, s.requires.2)))

-- the int at that place
stands : (c : After-bits_at-here) → let s = c.before in get_or s.args.body.now (c.bits_at-here.result / 4) (pos 0) ≡ get_or (A c) (start (A c) s.args.i) (pos 0)
stands c =
    let s = c.before in
    let j = c.bits_at-here.result / 4 in
    ap (λ (l : List ℤ). get_or l j (pos 0)) s.requires.3 ∙ get_or-drop (2 + s.args.n) (A c) j (pos 0) ∙ ap (λ (i : ℕ). get_or (A c) i (pos 0)) (place_is c)

pub bits_at-here-requires : goal.bits_at-here-requires
bits_at-here-requires c = omega (arith, c.requires.0.room, c.requires.2)

pub bits_at-requires : goal.bits_at-requires
bits_at-requires c =
    let s = c.before in
    let l : length s.args.body.now ≡ length (A c) - (2 + s.args.n) = ap length s.requires.3 ∙ length-drop (2 + s.args.n) (A c) in
    omega (arith, within c, l)

pub returns : goal.returns
unfolding key_at
returns c =
    let e = stands c.before in
    (c.bits_at.ensures.0 ∙ ap bits e, c.bits_at.ensures.1, subst (λ (z : ℤ). mag z < 2 ^ 31) e c.bits_at.ensures.2)
