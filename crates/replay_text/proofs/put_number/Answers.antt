-- `replay_text::put_number` meets its contract. Assumes nothing.
use mathlib.Core.Path.{sym, ap, ◌∙◌}
use mathlib.Core.List.{List}
use Prim.Native.Nat.{ℕ}
use Rattle.replay_text.specs.Buffer.{puts}
use Rattle.replay_text.proofs.NumberLaws.{all-spelled}
use Rattle.replay_text.proofs.put_number.Goals as goal

pub returns : goal.returns
returns c =
    let s = c in
    let d = c.decimal-k in
    ap (λ (l : List ℕ). puts l (record { next = s.args.at; out = s.args.out.now }))
    (sym (all-spelled d.result s.args.n s.ranges.n.fits d.ensures.len) ∙ sym d.ensures.digits)
    ∙ c.put.ensures
