-- The meaning of a distance in the code, and of a tick that may be absent. Assumes nothing.
use Rattle.std.specs.Prelude.{◌≡◌, refl, ℕ, ℤ, Some, None}
use Rattle.std.specs.Prelude as Prelude
use Rattle.std.proofs.Common.{ap, arith}
use Rattle.std.proofs.Math.Option.{Option, some, none}
use Rattle.definitions.specs.Messages as Messages
use Rattle.ticks.specs.declared.Distance.{Distance}
use Rattle.ticks.specs.declared.Tick.{Tick}

-- a distance
abbrev pub distance_of : Distance → Messages.Distance
distance_of d = record { ticks = d.0 }

-- a tick, if there is one
abbrev pub tick_of : Prelude.Option Tick → Option ℤ
tick_of (Some t) = some t.0
tick_of None = none

-- it determines the value
pub tick-settled : (a b : Prelude.Option Tick) → tick_of a ≡ tick_of b → a ≡ b
tick-settled (Some s) (Some t) e =
    let q : s.0 ≡ t.0 = cc in
    let p : s ≡ t = ap (λ (n : ℤ). record { 0 = n }) q in
    ap Some p
tick-settled None None e = refl
tick-settled (Some s) None e = let z : ◌≡◌ {A = ℕ} 0 1 = cc in absurd (omega arith)
tick-settled None (Some t) e = let z : ◌≡◌ {A = ℕ} 0 1 = cc in absurd (omega arith)
