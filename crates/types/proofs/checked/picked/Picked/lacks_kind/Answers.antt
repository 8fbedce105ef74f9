-- `Picked::lacks_kind` meets its contract. Assumes nothing.
use mathlib.Core.Path.{ap, ◌∙◌}
use borrow.Author.Tests.{lt-leb}
use Prim.Native.Nat.{ℕ, ◌/◌}
use Rattle.types.proofs.Lacking.{lacks-not, lacks-found}
use Rattle.types.proofs.checked.picked.Picked.lacks_kind.Goals as goal

pub returns-then-type_id-ge16384 : goal.returns-then-type_id-ge16384
returns-then-type_id-ge16384 c =
    lacks-found _ _ _ _ (ap (λ (k : ℕ). k / 65536) c.key_of-type_id.ensures.0) c.if-type_id-ge16384.true c.has_key.ensures

pub returns-else-type_id-ge16384 : goal.returns-else-type_id-ge16384
returns-else-type_id-ge16384 c =
    lt-leb _ _ c.if-type_id-ge16384.false ∙ lacks-not _ _ _ (ap (λ (k : ℕ). k / 65536) c.key_of-type_id.ensures.0) c.if-type_id-ge16384.false
