-- `delta::write` meets its contract: by the check of the form, then by that of the sizes. Assumes nothing.
use mathlib.Core.Path.{sym, ◌∙◌}
use Rattle.delta.proofs.Calls.{bytes-47, holds, bytes-46, bytes-call}
use Rattle.delta.proofs.write.Goals as goal

pub returns-in_default : goal.returns-in_default
returns-in_default c = bytes-47 c.args.area.now c.args.sizes.now c.in_default.ensures c.args.out.now

pub sizes_match-requires : goal.sizes_match-requires
sizes_match-requires c = holds c.args.area.now c.args.sizes.now c.in-Some.ensures

pub write_packed-requires : goal.write_packed-requires
write_packed-requires c = holds c.args.area.now c.args.sizes.now c.in-Some.ensures

pub returns-then-sizes_match : goal.returns-then-sizes_match
returns-then-sizes_match c =
    bytes-call c.args.area.now c.args.sizes.now c.in-Some.ensures (sym c.if-sizes_match.true ∙ c.sizes_match.ensures) c.args.out.now ∙ c.write_packed.ensures

pub returns-else-sizes_match : goal.returns-else-sizes_match
returns-else-sizes_match c =
    bytes-46 c.args.area.now c.args.sizes.now c.in-Some.ensures (sym c.if-sizes_match.false ∙ c.sizes_match.ensures) c.args.out.now
