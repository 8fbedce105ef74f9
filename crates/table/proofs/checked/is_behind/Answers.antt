-- `checked::is_behind` meets its contract. Assumes nothing.
use Rattle.std.proofs.Common.{◌≡◌, sym, ap, ◌∙◌, Bool, cond, ◌+◌, ◌-◌, arith, w32, to_z-of_z}
use Rattle.table.specs.Offsets.{behind_at}
use Rattle.table.proofs.checked.is_behind.Goals as goal
use Rattle.table.proofs.checked.is_behind.Goals.{After-signed_less}

-- what the comparison says
less-is : (c : After-signed_less) → c.signed_less.result ≡ behind_at c.args.area.now (c.args.i - 1)
unfolding behind_at
less-is c =
    let d : 2 + (c.args.i - 1) ≡ 1 + c.args.i = omega arith in
    let e : 3 + (c.args.i - 1) ≡ 2 + c.args.i = omega arith in
    c.signed_less.ensures ∙ rw (d, e, to_z-of_z {w = w32} (record { sfits = c.signed_less-arg-1.given }), to_z-of_z {w = w32} (record { sfits = c.signed_less-arg-2-1.given }))

pub returns-then-signed_less : goal.returns-then-signed_less
returns-then-signed_less c =
    (ap (λ (b : Bool). cond b 1 0) (sym c.if-signed_less.true ∙ less-is (goal.at.returns-then-signed_less c).After-signed_less), omega arith)

pub returns : goal.returns
returns c = (ap (λ (b : Bool). cond b 1 0) (sym c.if-signed_less.false ∙ less-is (goal.at.returns c).After-signed_less), omega arith)
