-- `checked::size_int` meets its contract: by whether the size is known. Assumes nothing.
use mathlib.Core.Path.{◌∙◌}
use mir.Facts.{to_z-of_z}
use Rattle.delta_form.specs.Forms.{is_known, is-unknown}
use Rattle.laws.specs.DeltaSized.{known-inside, known-int, unknown-inside, unknown-int}
use Rattle.std.proofs.Common.{w32}
use Rattle.delta_reading.proofs.checked.size_int.Goals as goal

pub bounds-sizes-raw_type_id : goal.bounds-sizes-raw_type_id
bounds-sizes-raw_type_id c =
    let s = c.args in
    known-inside s.sizes.now s.src.now s.p _ _ c.nat_at-raw_type_id.ensures.0 (is_known _ _ c.nat_at-raw_type_id.ensures.0 c.known_size.ensures.0 c.if-known_size-lt4294967296.true)

pub returns-then-known_size-lt4294967296 : goal.returns-then-known_size-lt4294967296
returns-then-known_size-lt4294967296 c =
    let s = c.args in
    to_z-of_z {w = w32} (record { sfits = c.result-1.given })
    ∙ known-int s.sizes.now s.src.now s.p _ _ c.nat_at-raw_type_id.ensures.0 (is_known _ _ c.nat_at-raw_type_id.ensures.0 c.known_size.ensures.0 c.if-known_size-lt4294967296.true)

pub bounds-src-p : goal.bounds-src-p
bounds-src-p c =
    let s = c.args in
    unknown-inside s.sizes.now s.src.now s.p c.requires (is-unknown _ _ c.nat_at-raw_type_id.ensures.0 c.known_size.ensures.0 c.if-known_size-lt4294967296.false)

pub returns : goal.returns
returns c =
    let s = c.args in
    to_z-of_z {w = w32} (record { sfits = c.result-2-1.given })
    ∙ unknown-int s.sizes.now s.src.now s.p c.requires (is-unknown _ _ c.nat_at-raw_type_id.ensures.0 c.known_size.ensures.0 c.if-known_size-lt4294967296.false)
