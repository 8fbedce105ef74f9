use Rattle.std.proofs.Common.{ap, ◌∙◌, arith, w32, to_z-of_z, set, ◌≡◌}
use Rattle.std.proofs.lemmas.Int.{to_z_pos}
use Rattle.definitions.specs.Tables.{num, nat}
use Rattle.table_adding.proofs.Turns.{raise-same, raise-turn}
use Rattle.table_adding.proofs.checked.raise.Goals as goal
use Rattle.table_adding.proofs.checked.raise.Goals.{After-num}

-- the count that is read has not changed yet
counted : (c : After-num) → c.num.result ≡ nat c.args.part.now c.loop-count.count-index
unfolding nat
counted c =
    c.num.ensures.0 ∙ ap num (to_z-of_z {w = w32} (record { sfits = c.num-arg-1.given }))
    ∙ raise-same c.args.by c.args.part.now c.loop-count.part c.loop-count.count-index c.loop-count-test.true c.loop-count.invariant

pub overflow_cast-count : goal.overflow_cast-count
overflow_cast-count c =
    record { sfits = omega (arith, c.requires.1 c.loop-count.count-index c.loop-count-test.true, counted (goal.at.overflow_cast-count c).After-num) }

pub loop-count-preserved : goal.loop-count-preserved
loop-count-preserved c =
    let e = counted (goal.at.loop-count-preserved c).After-num in
    ap (set c.loop-count.part c.loop-count.count-index) (to_z_pos w32 _ (omega (arith, c.requires.1 c.loop-count.count-index c.loop-count-test.true, e)))
    ∙ raise-turn c.args.by c.args.part.now c.loop-count.part c.loop-count.count-index c.loop-count-test.true c.loop-count.invariant _ (omega (arith, e))
