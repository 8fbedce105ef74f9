-- `Storage::add_delta` meets its contract: the delta is taken, and scratch is cleared. Assumes nothing.
use Rattle.laws.specs.AreaLaws.{cleared-same}
use mathlib.Core.Path.{◌∙◌}
use mir.Facts.{to_z-of_z}
use Rattle.std.proofs.Common.{w32}
use Rattle.storage.proofs.Storage.add_delta.Goals as goal
use Rattle.storage.proofs.Storage.add_delta.Goals.{then-has_crc, else-has_crc}

pub returns : goal.returns
returns c =
    let s = c in
    let t = c.take-taking in
    let z = c.clear.ensures ∙ cleared-same t.new.scratch s.args.scratch.now t.auto.scratch in
    elim c.if-has_crc.branch [
      | then-has_crc w ↦ (rw w.if-has_crc.true (rw (w.m-is, to_z-of_z {w = w32} s.ranges.crc) at t.ensures), z)
      | else-has_crc w ↦ (rw w.if-has_crc.false (rw w.m-is at t.ensures), z)
    ]
