use mathlib.Core.Path.{◌≡◌, sym, ap, ◌∙◌}
use Prim.Native.Nat.{◌-◌, ◌/◌}
use native.Mathlib.Omega.{arith}
use lib.IntN.{pos}
use lib.ListN.{length, get_or}
use mir.Facts.{to_z-of_z}
use Rattle.definitions.specs.Ints.{bits, from_bits}
use Rattle.definitions.specs.DeltaReading.{elem}
use Rattle.definitions.specs.Tables.{key_at}
use Rattle.laws.specs.IntLaws.{from_bits-bits}
use Rattle.rules.specs.Searching.{first_best}
use Rattle.rules.proofs.Turns.{none-searched, skipped, refused, for-another, for-it}
use Rattle.std.proofs.Common.{w32}
use Rattle.rules.proofs.checked.search.Goals as goal

pub loop-i-init : goal.loop-i-init
loop-i-init c =
    let a = c.args in
    rw (to_z-of_z {w = w32} c.ranges.ingredient)
    (record { known = c.names-named.ensures; searched = none-searched a.types.now _ a.area.now a.n c.requires })

pub loop-i-preserved-then-not-named : goal.loop-i-preserved-then-not-named
loop-i-preserved-then-not-named c =
    let a = c.args in
    let asked : c.names_next-named.result ≡ elem (key_at a.area.now (c.loop-i.i - 1) / 65536) a.types.now = c.names_next-named.ensures ∙ rw (c.key_to_raw_type_id-raw_type_id.ensures, to_z-of_z {w = w32} (record { sfits = c.key_at-key.type_inv }), c.key_at-key.ensures) in
    rw (to_z-of_z {w = w32} c.ranges.ingredient)
    (record {
      known = c.names_next-named.ensures;
      searched = skipped _ _ a.area.now a.n c.requires (c.loop-i.i - 1) c.loop-i.i (omega arith) (omega arith) c.loop-i.best
          (sym asked ∙ c.if-not-named.true) (rw (to_z-of_z {w = w32} c.ranges.ingredient) at c.loop-i.invariant.searched);
    })

pub returns-then-values-lt3 : goal.returns-then-values-lt3
unfolding from_bits
returns-then-values-lt3 c =
    let a = c.args in
    let asked : c.names_next-named.result ≡ elem (key_at a.area.now (c.loop-i.i - 1) / 65536) a.types.now = c.names_next-named.ensures ∙ rw (c.key_to_raw_type_id-raw_type_id.ensures, to_z-of_z {w = w32} (record { sfits = c.key_at-key.type_inv }), c.key_at-key.ensures) in
    refused _ a.ingredient a.area.now a.n c.requires (c.loop-i.i - 1) c.loop-i.i (omega arith) (omega arith)
    (sym asked ∙ c.if-not-named.false) (omega (arith, ap length c.data_at-values.ensures))

pub loop-i-preserved-then-values-ingredient : goal.loop-i-preserved-then-values-ingredient
unfolding bits
loop-i-preserved-then-values-ingredient c =
    let a = c.args in
    let asked : c.names_next-named.result ≡ elem (key_at a.area.now (c.loop-i.i - 1) / 65536) a.types.now = c.names_next-named.ensures ∙ rw (c.key_to_raw_type_id-raw_type_id.ensures, to_z-of_z {w = w32} (record { sfits = c.key_at-key.type_inv }), c.key_at-key.ensures) in
    rw (to_z-of_z {w = w32} c.ranges.ingredient)
    (record {
      known = c.names_next-named.ensures;
      searched = for-another _ _ a.area.now a.n c.requires (c.loop-i.i - 1) c.loop-i.i (omega arith) (omega arith) c.loop-i.best
          (rw (to_z-of_z {w = w32} c.ranges.ingredient) at c.loop-i.invariant.searched) (sym asked ∙ c.if-not-named.false) _ c.data_at-values.ensures (omega arith) c.if-values-ingredient.true;
    })

pub loop-i-preserved : goal.loop-i-preserved
unfolding bits
loop-i-preserved c =
    let a = c.args in
    let v = c.data_at-values.result.now in
    let asked : c.names_next-named.result ≡ elem (key_at a.area.now (c.loop-i.i - 1) / 65536) a.types.now = c.names_next-named.ensures ∙ rw (c.key_to_raw_type_id-raw_type_id.ensures, to_z-of_z {w = w32} (record { sfits = c.key_at-key.type_inv }), c.key_at-key.ensures) in
    let keyed : c.key_at-key.result ≡ from_bits (key_at a.area.now (c.loop-i.i - 1)) = sym (from_bits-bits {x = c.key_at-key.result} (record { sfits = c.key_at-key.type_inv })) ∙ ap from_bits c.key_at-key.ensures in
    let taken : c.first_of.result ≡ first_best (record { key = c.key_at-key.result; priority = get_or v 1 (pos 0); action = get_or v 2 (pos 0) }) c.loop-i.best =
    rw (to_z-of_z {w = w32} (record { sfits = c.key_at-key.type_inv }), to_z-of_z {w = w32} {z = get_or v 1 (pos 0)} (record { sfits = omega arith }), to_z-of_z {w = w32} {z = get_or v 2 (pos 0)} (record { sfits = omega arith })) at c.first_of.ensures in
    rw (to_z-of_z {w = w32} c.ranges.ingredient)
    (record {
      known = c.names_next-named.ensures;
      searched = for-it _ _ a.area.now a.n c.requires (c.loop-i.i - 1) c.loop-i.i (omega arith) (omega arith) c.loop-i.best
          (rw (to_z-of_z {w = w32} c.ranges.ingredient) at c.loop-i.invariant.searched) (sym asked ∙ c.if-not-named.false) _ c.data_at-values.ensures (omega arith) _ c.first_of.result keyed
          c.if-values-ingredient.false taken;
    })
