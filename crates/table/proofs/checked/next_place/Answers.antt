use Rattle.std.proofs.Common.{◌≡◌, sym, ◌∙◌, ltb, ltb-false, w32, to_z-of_z}
use Rattle.definitions.specs.Ints.{bits}
use Rattle.definitions.specs.Tables.{key_at}
use Rattle.table.specs.Finding.{stops}
use Rattle.table.proofs.checked.next_place.Goals as goal

pub returns-then-not-unsigned_less : goal.returns-then-not-unsigned_less
unfolding bits
returns-then-not-unsigned_less c =
    let k = to_z-of_z {w = w32} c.ranges.key in
    let e : c.unsigned_less.result ≡ ltb (key_at c.args.area.now c.loop-i.i) (bits c.args.key) = c.unsigned_less.ensures ∙ rw (to_z-of_z {w = w32} (record { sfits = c.key_at.type_inv }), k, c.key_at.ensures) in
    stops c.args.area.now c.args.n _ c.loop-i.i c.requires.0 c.loop-i-test.true (rw k at c.loop-i.invariant) (ltb-false _ _ (sym e ∙ c.if-not-unsigned_less.true))
