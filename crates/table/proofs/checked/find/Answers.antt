-- `checked::find` meets its contract: the item at the place of a key has it, or no item has. Assumes nothing.
use Rattle.std.proofs.Common.{sym, ◌∙◌, arith, w32, to_z-of_z}
use Rattle.definitions.specs.Ints.{bits}
use Rattle.table.proofs.Places.{found, missing}
use Rattle.table.proofs.checked.find.Goals as goal
use Rattle.table.proofs.checked.find.Goals.{else-p-n-via-then-p-n+else-key_at-key, else-p-n-via-else-p-n}

pub returns-then-key_at-key : goal.returns-then-key_at-key
unfolding bits
returns-then-key_at-key c =
    found _ _ c.requires _ _ (rw (to_z-of_z {w = w32} c.ranges.key) at c.place-p.ensures) c.if-p-n.true (sym c.key_at.ensures ∙ c.if-key_at-key.true)

pub returns : goal.returns
unfolding bits
returns c =
    let p = rw (to_z-of_z {w = w32} c.ranges.key) at c.place-p.ensures in
    elim c.else-p-n.branch [
      | else-p-n-via-then-p-n+else-key_at-key w ↦ missing _ _ c.requires _ _ p (λ l e. w.if-key_at-key.false (w.key_at.ensures ∙ e))
      | else-p-n-via-else-p-n w ↦ missing _ _ c.requires _ _ p (λ l e. omega arith)
    ]
