use Rattle.std.proofs.Common.{sym, ◌∙◌, add-zero, arith, rules}
use Rattle.ints.proofs.checked.add_into.Goals as goal

pub loop-i-init : goal.loop-i-init
loop-i-init c = (search rules, rw add-zero)

pub add_four-requires : goal.add_four-requires
add_four-requires c = (c.requires.0, omega (arith, c.requires.1, c.loop-i.auto.out), c.loop-i-test.true)

pub loop-i-preserved : goal.loop-i-preserved
loop-i-preserved c = (c.loop-i-test.true, sym c.add_four.ensures ∙ c.loop-i.invariant.1)

pub add_from-requires : goal.add_from-requires
add_from-requires c = (c.requires.0, omega (arith, c.requires.1, c.loop-i.auto.out), c.loop-i.invariant.0)

pub returns : goal.returns
returns c = c.add_from.ensures ∙ c.loop-i.invariant.1
