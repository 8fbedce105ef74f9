-- `checked::update_fits` meets its contract: each test is part of the form. Assumes nothing.
use Rattle.delta_form.proofs.Turns.{no_end, end_is}
use Prim.Native.Nat.{◌+◌}
use Rattle.std.proofs.Common.{Some}
use mathlib.Core.Path.{ap, ap₂, ◌∙◌}
use Rattle.laws.specs.DeltaShape.{Update}
use native.Mathlib.Omega.{arith}
use Rattle.definitions.specs.Deltas.{update_end}
use Rattle.delta_form.proofs.checked.update_fits.Goals as goal

pub returns-then-area-p-lt2 : goal.returns-then-area-p-lt2
returns-then-area-p-lt2 c = no_end _ _ _ (λ u. omega arith)

pub returns-then-nat_at-gt65535 : goal.returns-then-nat_at-gt65535
returns-then-nat_at-gt65535 c = no_end _ _ _ (λ u. omega arith)

pub returns-then-nat_at-gt65535-2 : goal.returns-then-nat_at-gt65535-2
returns-then-nat_at-gt65535-2 c = no_end _ _ _ (λ u. omega arith)

pub returns-then-area-from : goal.returns-then-area-from
returns-then-area-from c = no_end _ _ _ (λ u. omega arith)

pub returns-then-size-gt4294967295 : goal.returns-then-size-gt4294967295
returns-then-size-gt4294967295 c = no_end _ _ _ (λ u. omega arith)

pub returns-then-area-from-2 : goal.returns-then-area-from-2
unfolding update_end
returns-then-area-from-2 c = no_end _ _ _ (λ u. omega (arith, u.ends))

pub returns : goal.returns
unfolding update_end
returns c =
    let s = c.args in
    let u : Update s.sizes.now s.area.now s.p = record { head = omega arith; type-below = omega arith; id_below = omega arith; begins = omega arith; size_below = omega arith; ends = omega arith } in
    ap Some (ap₂ ◌+◌ c.data_at-from.ensures.0 c.size_at-size.ensures.0) ∙ end_is _ _ _ u
