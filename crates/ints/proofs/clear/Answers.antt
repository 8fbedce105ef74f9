-- `ints::clear` meets its contract. Assumes nothing.
use Rattle.std.proofs.Common.{◌≡◌, List, [], ◌∷◌, length, ℤ, pos, replicate, refl, ap, ◌∙◌}
use Rattle.definitions.specs.Areas.{cleared}
use Rattle.ints.proofs.clear.Goals as goal

zeros : (l : List ℤ) → replicate (length l) (pos 0) ≡ cleared l
zeros [] = refl
zeros (a ∷ l) = ap (λ (t : List ℤ). pos 0 ∷ t) (zeros l)

pub returns : goal.returns
returns c = c.fill.ensures.after (λ y e. e) ∙ zeros c.args.out.now
