-- `checked::item_end` meets its contract: by its tests of the end. Assumes nothing.
use Rattle.std.proofs.Common.{◌≡◌, ap, ◌+◌, ℕ, List, ℤ, arith}
use Rattle.std.specs.Prelude.{Some, None, cond}
use Rattle.definitions.specs.Tables.{edge, ends}
use Rattle.laws.specs.TableShape.{Ends, ends-well, well-ends, fails}
use Rattle.table_reading.proofs.checked.item_end.Goals as goal
use Rattle.table_reading.proofs.checked.item_end.Goals.{then-next-ne0-via-then-next-ne0, then-next-ne0-via-else-next-ne0+then-next-here, then-next-ne0-via-else-next-ne0+else-next-here+then-len-next}

ends-badly : (a : List ℤ) (i : ℕ) → (Ends a i → ⊥) → None ≡ cond (ends a i) (Some (edge a (i + 1))) None
ends-badly a i h = rw (fails (ends a i) (λ e. h (ends-well a i e)))

pub returns-then-next-ne0 : goal.returns-then-next-ne0
returns-then-next-ne0 c =
    let e = c.edge-next.ensures.0 in
    ends-badly c.args.src.now c.args.i
    (λ h. elim c.then-next-ne0.branch [
      | then-next-ne0-via-then-next-ne0 w ↦ omega (arith, h.aligned)
      | then-next-ne0-via-else-next-ne0+then-next-here w ↦ omega (arith, h.rises, c.requires.2)
      | then-next-ne0-via-else-next-ne0+else-next-here+then-len-next w ↦ omega (arith, h.within, c.requires.0.size_is)
    ])

pub returns : goal.returns
returns c =
    let e = c.edge-next.ensures.0 in
    let h : Ends c.args.src.now c.args.i = record { aligned = omega arith; rises = omega (arith, c.requires.2); within = omega (arith, c.requires.0.size_is) } in
    rw (well-ends c.args.src.now c.args.i h) (ap Some e)
