-- `checked::updates_fit` meets its contract: the first update, and those above it. Assumes nothing.
use mathlib.Core.Path.{◌≡◌, ap, ◌∙◌}
use native.Mathlib.Omega.{arith}
use mir.Facts.{to_z-of_z}
use Rattle.definitions.specs.Deltas.{rank, update_end}
use Rattle.laws.specs.DeltaShape.{Update}
use Rattle.delta_form.proofs.Turns.{end-found, end-missing, none_left, unfit, turn}
use Rattle.std.proofs.Common.{w32}
use Rattle.delta_form.proofs.checked.updates_fit.Goals as goal
use Rattle.delta_form.proofs.checked.updates_fit.Goals.{In_ok-end}

-- the first update is within the area
lies : (c : In_ok-end) → let s = c.args in Update s.sizes.now s.area.now s.start × (c.in_ok-end.end ≡ update_end s.sizes.now s.area.now s.start)
lies c = end-found _ _ _ _ c.in_ok-end.ensures

pub returns-then-n-eq0 : goal.returns-then-n-eq0
returns-then-n-eq0 c = let s = c.args in none_left s.sizes.now s.area.now s.start 0 s.n (omega arith)

pub returns-in_err-end : goal.returns-in_err-end
returns-in_err-end c =
    let s = c.args in
    c.from_residual.ensures
    ∙ unfit s.sizes.now s.area.now s.start 0 s.n (omega arith) (λ u m. end-missing _ _ _ c.in_err-end.ensures u)

pub update_key-requires : goal.update_key-requires
update_key-requires c = let u = (lies c).0 in (u.head, u.type-below, u.id_below)

pub updates_fit_above-requires : goal.updates_fit_above-requires
updates_fit_above-requires c = let u = lies c.before in omega (arith, u.0.ends, u.1)

pub returns : goal.returns
returns c =
    let s = c.args in
    let u = lies c.before.before in
    c.updates_fit_above.ensures
    ∙ rw (to_z-of_z {w = w32} (record { sfits = c.update_key.type_inv }))
    (turn s.sizes.now s.area.now s.start 0 s.n _ _ _ (omega arith) u.0 u.1 (ap rank c.update_key.ensures) (omega arith))
