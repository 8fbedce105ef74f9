use Rattle.std.proofs.Common.{◌≡◌, refl, ap, ap₂, ◌∙◌, ◌+◌, ◌-◌, arith, bit_or, pos, get_or, w32, to_z-of_z}
use Rattle.definitions.specs.Ints.{bits}
use Rattle.table.specs.Offsets.{behind_at, joined, tally}
use Rattle.table.proofs.OffsetLaws.{tally-most, tally-more, joined-more}
use Rattle.table.proofs.checked.join_offsets.Goals as goal

pub loop-i-init : goal.loop-i-init
unfolding tally joined
loop-i-init c = (omega arith, refl, refl)

pub overflow_add-behind : goal.overflow_add-behind
overflow_add-behind c =
    record { fits = omega (arith, c.loop-i.invariant.1, c.requires.1, tally-most (behind_at c.args.area.now) (c.loop-i.i - 1), c.is_behind-behind.ensures.1) }

pub loop-i-preserved : goal.loop-i-preserved
loop-i-preserved c =
    let a = c.args.area.now in
    let i = c.loop-i.i - 1 in
    let k : 2 + c.loop-i.i ≡ 3 + i = omega arith in
    let m : c.loop-i.i + 1 - 1 ≡ i + 1 = omega arith in
    let x : c.to_bits-bits.result ≡ bits (get_or a (3 + i) (pos 0)) = c.to_bits-bits.ensures ∙ rw (← k) (ap bits (to_z-of_z {w = w32} (record { sfits = c.to_bits-arg-1.given }))) in
    (omega arith, rw m (omega (arith, c.loop-i.invariant.1, c.is_behind-behind.ensures.0, tally-more (behind_at a) i)), rw m (ap₂ bit_or c.loop-i.invariant.2 x ∙ joined-more a i))
