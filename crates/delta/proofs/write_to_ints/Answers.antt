-- `delta::write_to_ints` meets its contract: by the check of the form, then by that of the sizes. Assumes nothing.
use mathlib.Core.Path.{sym, ◌∙◌}
use Rattle.delta.proofs.Calls.{ints-47, holds, ints-46, ints-call}
use Rattle.delta.proofs.write_to_ints.Goals as goal

pub returns-in_default : goal.returns-in_default
returns-in_default c = ints-47 c.args.area.now c.args.sizes.now c.in_default.ensures c.args.out.now

pub sizes_match-requires : goal.sizes_match-requires
sizes_match-requires c = holds c.args.area.now c.args.sizes.now c.in-Some.ensures

pub returns-then-not-sizes_match : goal.returns-then-not-sizes_match
returns-then-not-sizes_match c =
    ints-46 c.args.area.now c.args.sizes.now c.in-Some.ensures (sym c.if-not-sizes_match.true ∙ c.sizes_match.ensures) c.args.out.now

pub write_ints-requires : goal.write_ints-requires
write_ints-requires c = holds c.args.area.now c.args.sizes.now c.in-Some.ensures

pub returns : goal.returns
returns c =
    ints-call c.args.area.now c.args.sizes.now c.in-Some.ensures (sym c.if-not-sizes_match.false ∙ c.sizes_match.ensures) c.args.out.now ∙ c.write_ints.ensures
