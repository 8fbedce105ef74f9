-- `checked::judge` meets its contract: by whether the types are sound. Assumes nothing.
use Rattle.table.specs.Forms.{formed}
use Rattle.table.specs.Held.{Held}
use mathlib.Core.Path.{sym, subst}
use native.Mathlib.Omega.{arith}
use Rattle.typed_applying.proofs.checked.judge.Goals as goal

pub nat_at-n-requires : goal.nat_at-n-requires
nat_at-n-requires c = let h = (formed c.args.area.now _ _ c.requires).0 in omega (arith, h.shape.room)

pub judge_form-judged-requires : goal.judge_form-judged-requires
judge_form-judged-requires c =
    let f = formed c.args.area.now _ _ c.requires in
    (subst (Held c.args.area.now) (sym c.nat_at-n.ensures.0) f.0, f.1)
