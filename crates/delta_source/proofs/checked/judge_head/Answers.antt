-- `checked::judge_head` meets its contract: step by step as the definition. Assumes nothing.
use mathlib.Core.Path.{◌≡◌, sym, ap, ap₂, ◌∙◌}
use lib.IntN.{nat_abs}
use mir.Syntax.{w32}
use mir.Facts.{to_z-of_z}
use Rattle.std.specs.Int.{FitsUnsignedBits}
use Rattle.definitions.specs.Tables.{key_of, num}
use Rattle.definitions.specs.Deltas.{known_size}
use Rattle.delta_source.specs.Source.{source}
use Rattle.delta_source.proofs.Reading.{is-16, not-16, type-range, id-range, size-known, size-unknown}
use Rattle.delta_source.proofs.checked.judge_head.Goals as goal

pub returns-in_default : goal.returns-in_default
returns-in_default c =
    let a = c.args in
    let h : FitsUnsignedBits 16 a.type_id → ⊥ = rw (to_z-of_z {w = w32} c.ranges.type_id) at c.in_default.ensures in
    type-range _ a.sizes.now a.at a.type_id a.id a.overlong (not-16 a.type_id h)

pub returns-in_default-try_from : goal.returns-in_default-try_from
returns-in_default-try_from c =
    let a = c.args in
    let h : FitsUnsignedBits 16 a.type_id × (c.in-Ok.t ≡ nat_abs a.type_id) = rw (to_z-of_z {w = w32} c.ranges.type_id) at c.in-Ok.ensures in
    let k : FitsUnsignedBits 16 a.id → ⊥ = rw (to_z-of_z {w = w32} c.ranges.id) at c.in_default-try_from.ensures in
    id-range _ a.sizes.now a.at a.type_id a.id a.overlong (is-16 a.type_id h.0).1 (not-16 a.id k)

pub returns-then-known-ge4294967296 : goal.returns-then-known-ge4294967296
returns-then-known-ge4294967296 c =
    let a = c.args in
    let h : FitsUnsignedBits 16 a.type_id × (c.in-Ok.t ≡ nat_abs a.type_id) = rw (to_z-of_z {w = w32} c.ranges.type_id) at c.in-Ok.ensures in
    let k : FitsUnsignedBits 16 a.id × (c.in-Ok-try_from.i ≡ nat_abs a.id) = rw (to_z-of_z {w = w32} c.ranges.id) at c.in-Ok-try_from.ensures in
    let t = is-16 a.type_id h.0 in
    let i = is-16 a.id k.0 in
    let e : c.in-Ok.t ≡ num a.type_id = h.1 ∙ t.0 in
    let z = to_z-of_z {w = w32} {z = c.key-key.result} (record { sfits = c.key-key.type_inv }) in
    size-unknown (source a.packed a.bytes.now a.ints.now) a.sizes.now a.at a.type_id a.id a.overlong t.1 i.1
    c.key-key.result c.known_size-known.result
    (c.key-key.ensures ∙ ap₂ key_of e (k.1 ∙ i.0)) (ap (known_size a.sizes.now) (sym (c.from.ensures ∙ e)) ∙ c.known_size-known.ensures.0)
    c.if-known-ge4294967296.true (rw z at c.read_size.ensures)

pub returns : goal.returns
returns c =
    let a = c.args in
    let h : FitsUnsignedBits 16 a.type_id × (c.in-Ok.t ≡ nat_abs a.type_id) = rw (to_z-of_z {w = w32} c.ranges.type_id) at c.in-Ok.ensures in
    let k : FitsUnsignedBits 16 a.id × (c.in-Ok-try_from.i ≡ nat_abs a.id) = rw (to_z-of_z {w = w32} c.ranges.id) at c.in-Ok-try_from.ensures in
    let t = is-16 a.type_id h.0 in
    let i = is-16 a.id k.0 in
    let e : c.in-Ok.t ≡ num a.type_id = h.1 ∙ t.0 in
    rw (to_z-of_z {w = w32} (record { sfits = c.key-key.type_inv }))
    (size-known _ a.sizes.now a.at a.type_id a.id a.overlong t.1 i.1
    (c.key-key.ensures ∙ ap₂ key_of e (k.1 ∙ i.0)) (ap (known_size a.sizes.now) (sym (c.from.ensures ∙ e)) ∙ c.known_size-known.ensures.0)
    c.if-known-ge4294967296.false c.requires.0)
