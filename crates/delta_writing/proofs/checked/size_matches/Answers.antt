-- `checked::size_matches` meets its contract: by whether a size is known. Assumes nothing.
use native.Mathlib.Omega.{arith}
use Rattle.laws.specs.DeltaShape.{area-data}
use Rattle.delta_writing.proofs.Matching.{compared}
use Rattle.delta_writing.proofs.checked.size_matches.Goals as goal

pub nat_at-requires-then-size-lt4294967296 : goal.nat_at-requires-then-size-lt4294967296
nat_at-requires-then-size-lt4294967296 c = omega (arith, c.requires.begins, area-data c.args.area.now c.args.p)

pub returns-then-size-lt4294967296 : goal.returns-then-size-lt4294967296
returns-then-size-lt4294967296 c =
    compared _ _ _ _ _ c.nat_at.ensures.0 c.known_size-size.ensures.0 _ c.if-size-lt4294967296.true c.nat_at-then-size-lt4294967296.ensures.0
